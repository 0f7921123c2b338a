-- What is kept of a guide's answers before and after a call of it, which changes nothing of what it may answer.
use Rattle.std.proofs.Common.{inl, inr, ℕ, Option, ℤ}
use Rattle.opt_system.specs.Ranges.{Range}
use Rattle.opt_system.specs.Systems.{System}
use Rattle.opt_bound.specs.Multipliers.{Multipliers}
use Rattle.opt_guide.specs.Relations.{OfMultipliers, OfCandidates, OfCuts, AllowsSame}
use Rattle.opt_search.specs.declared.state.State.{State}
use Rattle.opt_search.specs.Guided.{IsLine, IsLeafLine, IsCutLine, WeighsOne}
use Rattle.opt_search.specs.State.{SettlesBox}

pub allows_twice : (w w' w'' : OfMultipliers) (t t' t'' : OfCandidates) (c c' c'' : OfCuts) → AllowsSame w w' t t' c c' → AllowsSame w' w'' t' t'' c' c'' → AllowsSame w w'' t t'' c c''
allows_twice w w' w'' t t' t'' c c' c'' first second = record {
  multipliers = λ s box m. (
    λ h. (second.multipliers s box m).0 ((first.multipliers s box m).0 h),
    λ h. (first.multipliers s box m).1 ((second.multipliers s box m).1 h),
  );
  candidates = λ s box x. (
    λ h. (second.candidates s box x).0 ((first.candidates s box x).0 h),
    λ h. (first.candidates s box x).1 ((second.candidates s box x).1 h),
  );
  cuts = λ s box j v. (
    λ h. (second.cuts s box j v).0 ((first.cuts s box j v).0 h),
    λ h. (first.cuts s box j v).1 ((second.cuts s box j v).1 h),
  );
}

pub allows_back : (w w' : OfMultipliers) (t t' : OfCandidates) (c c' : OfCuts) → AllowsSame w w' t t' c c' → AllowsSame w' w t' t c' c
allows_back w w' t t' c c' same = record {
  multipliers = λ s box m. ((same.multipliers s box m).1, (same.multipliers s box m).0);
  candidates = λ s box x. ((same.candidates s box x).1, (same.candidates s box x).0);
  cuts = λ s box j v. ((same.cuts s box j v).1, (same.cuts s box j v).0);
}

-- what is a line after the call was one before
pub line_before : (w w' : OfMultipliers) (t t' : OfCandidates) (c c' : OfCuts) (s : System) (box : Range) (m : Multipliers) → AllowsSame w w' t t' c c' → IsLine w' s box m → IsLine w s box m
line_before w w' t t' c c' s box m same is =
    elim is [
      | inl e ↦ inl ((same.multipliers s box m).1 e.0, e.1)
      | inr e ↦ inr (
        record {
          wrong = (e.0).wrong;
          answered = (same.multipliers s box (e.0).wrong).1 (e.0).answered;
          not_admissible = (e.0).not_admissible;
        },
        e.1,
      )
    ]

pub leaf_line_before : (w w' : OfMultipliers) (t t' : OfCandidates) (c c' : OfCuts) (s : System) (box : Range) (m : Multipliers) → AllowsSame w w' t t' c c' → IsLeafLine w' s box m → IsLeafLine w s box m
leaf_line_before w w' t t' c c' s box m same is = elim is [ inl e ↦ inl (line_before w w' t t' c c' s box m same e) | inr e ↦ inr e ]

pub cut_before : (w w' : OfMultipliers) (t t' : OfCandidates) (c c' : OfCuts) (s : System) (box : Range) (j : ℕ) (v : ℤ) → AllowsSame w w' t t' c c' → IsCutLine c' s box j v → IsCutLine c s box j v
cut_before w w' t t' c c' s box j v same is =
    elim is [
      | inl e ↦ inl ((same.cuts s box j v).1 e)
      | inr e ↦ inr (
        record {
          quantity = (e.0).quantity;
          at_value = (e.0).at_value;
          answered = (same.cuts s box (e.0).quantity (e.0).at_value).1 (e.0).answered;
          no_cut = (e.0).no_cut;
        },
        e.1,
      )
    ]

pub weighs_before : (w w' : OfMultipliers) (t t' : OfCandidates) (c c' : OfCuts) (s : System) (best : Option ℤ) (box : Range) → AllowsSame w w' t t' c c' → WeighsOne t' s best box → WeighsOne t s best box
weighs_before w w' t t' c c' s best box same is = record {
  candidate = is.candidate;
  answered = (same.candidates s box is.candidate).1 is.answered;
  weighed = is.weighed;
}

pub settles_before : (w w' : OfMultipliers) (t t' : OfCandidates) (c c' : OfCuts) (s : System) (old new : State) (node : ℕ) (box : Range) → AllowsSame w w' t t' c c' → SettlesBox w' t' s old new node box → SettlesBox w t s old new node box
settles_before w w' t t' c c' s old new node box same is = record {
  line = is.line;
  tree = is.tree;
  is_line = leaf_line_before w w' t t' c c' s box is.line same is.is_line;
  settled = is.settled;
  root = is.root;
  root_bound = is.root_bound;
  weighed = weighs_before w w' t t' c c' s _ box same is.weighed;
  falls = is.falls;
}
