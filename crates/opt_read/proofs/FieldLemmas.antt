-- Fields one after the other in one text, with the place where each ends.
use Rattle.std.proofs.Common.{◌≡◌, ◌<◌, ◌≤◌, ◌+◌, ◌-◌, ℕ, zero, suc, List, [], ◌∷◌, ◌++◌, take, drop, length, get_or, refl, ap, ap₂, subst, ◌∙◌, arith, inl, inr}
use Rattle.std.specs.Prelude.{IsCharBoundary, IsUtf8}
use Rattle.std.proofs.lemmas.Bool.{cases_lt}
use Rattle.std.proofs.lemmas.List.{get_or_append_left, get_or_past, length-append}
use Rattle.std.proofs.lemmas.List.Elements.{All-push}
use Rattle.std.proofs.Math.Seq.{drop-append_seam}
use Rattle.std.proofs.lemmas.Str.{IsCharBoundary-at_seam, IsCharBoundary-end}
use Rattle.csv.specs.Records.{cut_from, last_end, prev, Rising}
use Rattle.csv.proofs.RecordFacts.{cut-end, cut-length, cut-more, field-cut, field-get, last-append, prev-first, prev-next, rising-end, rising-more}
use Rattle.opt_read.specs.Fields.{AreEnds}

-- no fields
pub ends-none : AreEnds [] []
unfolding Rising last_end
ends-none = record {
  rising = omega arith;
  whole = refl;
  cuts = λ k d within. absurd (omega arith);
}

pub fields-none : (text : List ℕ) → cut_from 0 [] text ≡ []
unfolding cut_from
fields-none text = refl

-- where a text may be cut, it may be cut too with more text after it
cut-stays : (text field : List ℕ) (i : ℕ) → IsUtf8 field → IsCharBoundary text i → IsCharBoundary (text ++ field) i
cut-stays text field i utf8 (within, begins) = elim (cases_lt i (length text)) [
  | inl before ↦
      let same = get_or_append_left text field 0 i before in
      (omega (arith, length-append text field), λ _ high. rw same (begins before (rw same at high)))
  | inr past ↦
      let at : length text ≡ i = omega arith in
      subst (IsCharBoundary (text ++ field)) at (IsCharBoundary-at_seam (text ++ field) text field refl utf8)
]

-- one field more
pub ends-more : (text ends field : List ℕ) (end : ℕ) → IsUtf8 field → end ≡ length text + length field → AreEnds text ends → AreEnds (text ++ field) (ends ++ end ∷ [])
ends-more text ends field end utf8 is are =
    let size : end ≡ length (text ++ field) = omega (arith, length-append text field) in
    rw size (record {
      rising = rising-end 0 ends (length (text ++ field)) (rising-more 0 ends (length text) (length (text ++ field)) are.rising (omega (arith, length-append text field)));
      whole = last-append 0 ends (length (text ++ field));
      cuts = All-push (IsCharBoundary (text ++ field)) ends (length (text ++ field)) (λ k d within. cut-stays text field (get_or ends k d) utf8 (are.cuts k d within)) (IsCharBoundary-end (text ++ field));
    })

pub fields-push : (text ends field : List ℕ) (end : ℕ) → end ≡ length text + length field → AreEnds text ends
    → cut_from 0 (ends ++ end ∷ []) (text ++ field) ≡ cut_from 0 ends text ++ field ∷ []
fields-push text ends field end is are =
    let size : end ≡ length (text ++ field) = omega (arith, length-append text field) in
    let rising = rising-more 0 ends (length text) (length (text ++ field)) are.rising (omega (arith, length-append text field)) in
    let last : drop (last_end 0 ends) (text ++ field) ≡ field = ap (λ n. drop n (text ++ field)) are.whole ∙ drop-append_seam text field in
    rw size (cut-end 0 ends (text ++ field) rising ∙ ap₂ (λ front (back : List ℕ). front ++ back ∷ []) (cut-more 0 ends text field are.rising) last)

-- a field is the text from its start to its end
pub field-is : (text ends : List ℕ) (index : ℕ) → index < length ends
    → get_or (cut_from 0 ends text) index [] ≡ take (get_or ends index 0 - prev 0 ends index) (drop (prev 0 ends index) text)
field-is text ends index within = field-get (cut_from 0 ends text) index _ (field-cut 0 ends text index within)

pub no-field : (text ends : List ℕ) (index : ℕ) → length ends ≤ index → get_or (cut_from 0 ends text) index [] ≡ []
no-field text ends index past = get_or_past (cut_from 0 ends text) index [] (omega (arith, cut-length 0 ends text))

-- the text may be cut where a field starts that is not the first
pub start-cut : (text ends : List ℕ) (index : ℕ) → index < length ends → AreEnds text ends → 0 < prev 0 ends index → IsCharBoundary text (prev 0 ends index)
start-cut text ends zero within are some = absurd (omega (arith, prev-first ends))
start-cut text ends (suc index) within are some =
    let next : index + 1 ≡ suc index = omega arith in
    let at : prev 0 ends (suc index) ≡ get_or ends index 0 = rw next at (prev-next 0 ends index 0 (omega arith)) in
    rw at (are.cuts index 0 (omega arith))
