use Rattle.opt_report.proofs.tests.audits.assert_audit.Goals as goal

pub audit_text-requires : goal.audit_text-requires
audit_text-requires g c =
    c.in_ok-broken.ensures.numbers c.in_ok-tables.tables c.in_ok-tables.tables.settings.goal c.in_ok-system.ensures
