-- The run of a command that computed an answer and gave it, and of one that stopped before it gave anything.
use Rattle.std.proofs.Common.{◌≡◌, ◌≢◌, ℕ, ◌≤◌, inl, inr, ◌⊎◌, refl, arith, subst}
use Rattle.opt_reply.specs.declared.TheConstants.{OUTSIDE, MEMORY}
use Rattle.opt_reply.specs.Answer.{Answer}
use Rattle.opt_reply.specs.Delivery.{Standing, Faults, GivesAll, SomeRose, NoneFell, Delivers}
use Rattle.opt_reply.specs.Runs.{GivesOne, Runs}
use Rattle.opt_reply.proofs.Deliveries.{some_rose_after, none_fell_twice}

module _ (may : Answer → Type 0) (old new : Standing) (first before now : Faults) where
  given_whole : (answer : Answer) (status : ℕ) → may answer → Delivers answer status old new before now → answer.status ≤ 3 → status ≡ answer.status → GivesOne may status old new
  given_whole answer status is given few same =
      let whole : GivesAll answer old new = (given.ends (λ e. absurd (omega arith)) (λ e. absurd (omega arith))).1 in
      record { answer = answer; may_be = is; status_is = same; whole = whole }

  one_or_memory : (answer : Answer) (status : ℕ) → may answer → Delivers answer status old new before now → answer.status ≤ 3
      → (status ≡ answer.status) ⊎ (status ≡ MEMORY) → GivesOne may status old new ⊎ (status ≡ MEMORY)
  one_or_memory answer status is given few (inl same) = inl (given_whole answer status is given few same)
  one_or_memory answer status is given few (inr memory) = inr memory

  -- an answer that may be was computed while no count fell, and then given
  pub runs_given : (answer : Answer) (status : ℕ) → may answer → answer.status ≤ 3 → NoneFell first before → Delivers answer status old new before now → Runs may status old new first now
  runs_given answer status is few fell given = record {
    ends = λ f g. (let all = given.ends f g in record { answer = answer; may_be = is; status_is = all.0; whole = all.1 });
    early = λ at. inr (record { answer = answer; may_be = is; part = given.early at });
    outside = λ at. some_rose_after first before now fell (given.outside at);
    complete = λ none. one_or_memory answer status is given few (given.complete (λ rose. none (some_rose_after first before now fell rose)));
    later = none_fell_twice first before now fell given.later;
    told = given.told;
  }

module _ (may : Answer → Type 0) (old : Standing) (before now : Faults) where
  -- the outside failed before anything was given
  pub runs_outside : NoneFell before now → SomeRose before now → Runs may OUTSIDE old old before now
  runs_outside fell rose = record {
    ends = λ differs _. absurd (differs refl);
    early = λ _. inl refl;
    outside = λ _. rose;
    complete = λ none. absurd (none rose);
    later = fell;
    told = record { files = refl; out = refl; err = refl };
  }

  -- memory ran out before anything was given
  pub runs_memory : NoneFell before now → Runs may MEMORY old old before now
  runs_memory fell = record {
    ends = λ _ differs. absurd (differs refl);
    early = λ _. inl refl;
    outside = λ at. (cc);
    complete = λ _. inr refl;
    later = fell;
    told = record { files = refl; out = refl; err = refl };
  }
