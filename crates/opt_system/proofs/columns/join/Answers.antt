use Rattle.std.proofs.Common.{◌≡◌, ◌++◌, [], ◌∷◌, length, get_or, ap, ◌∙◌, arith}
use Rattle.std.proofs.lemmas.List.{get_or_read}
use Rattle.opt_system.proofs.JoinLemmas.{AreJoined-more}
use Rattle.opt_system.proofs.columns.join.Goals as goal

pub loop-list-preserved : goal.loop-list-preserved
loop-list-preserved c =
    let item : c.as_slice.result.now ≡ get_or c.args.lists.now c.loop-list.list-index [] =
    c.as_slice.ensures ∙ get_or_read c.args.lists.now c.loop-list.list-index c.list-item.result c.loop-list-test.true c.list-item.is []
    in
    let terms : c.extend_from_slice.new.self.items ≡ c.loop-list.terms.items ++ c.as_slice.result.now = c.in_ok-extend_from_slice.ensures.items in
    let size : c.len.result ≡ length (c.loop-list.terms.items ++ c.as_slice.result.now) = omega (arith, c.len.ensures, c.extend_from_slice.new.self.ok.0, ap length terms) in
    let starts : c.push-in-loop-list.new.self.items ≡ c.loop-list.starts.items ++ length (c.loop-list.terms.items ++ c.as_slice.result.now) ∷ [] =
    c.in_ok-push-2.ensures.items ∙ ap (λ n. c.loop-list.starts.items ++ n ∷ []) size
    in
    rw (terms, starts)
    (AreJoined-more c.loop-list.terms.items c.loop-list.starts.items c.args.lists.now c.loop-list.list-index c.as_slice.result.now c.loop-list-test.true item c.loop-list.invariant)
