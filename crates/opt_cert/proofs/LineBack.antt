-- A line that stands in its place is read from its own text alone.
use Rattle.std.proofs.Common.{◌≡◌, ℕ, zero, suc, ◌+◌, ◌^◌, ◌<◌, ◌≤◌, ◌==◌, nat_le, Bool, true, false, ◌&&◌, not, cond, List, [], ◌∷◌, ◌++◌, map, length, Option, Some, None, is_some, Result, Ok, Err, ℤ, pos, ◌≢◌, unsigned_abs, All, ◌⊎◌, ⊎_elim, inl, inr, codes, refl, sym, ap, ◌∙◌, subst, arith}
use Rattle.std.specs.List.{join_with_byte, list_all}
use Rattle.std.specs.Option.{option_map, option_and_then, ok_or}
use Rattle.std.specs.Str.{bytes_eq}
use Rattle.std.specs.Fmt.{decimal, signed_decimal}
use Rattle.std.proofs.lemmas.Int.{ints}
use Rattle.std.proofs.lemmas.Bool.Decides.{nat_tests}
use Rattle.std.proofs.lemmas.List.Elements.{All-head, All-tail, All-nil, All-cons, All-append}
use Rattle.opt_base.specs.Answers.{◌>>=◌}
use Rattle.opt_base.specs.declared.verdict.Verdict.{Verdict}
use Rattle.opt_base.specs.declared.verdict.Verdict.TheVariants as verdict
use Rattle.opt_bound.specs.declared.limits.TheConstants.{MULTIPLIER_LIMIT}
use Rattle.opt_bound.specs.Multipliers.{Multipliers}
use Rattle.opt_tree.specs.Certificates.{IsInRange, HasRanges, AreWritable, HasEntries, AreEntries, IsWritableCut}
use Rattle.opt_cert.specs.declared.cert_fault.CertFault.{CertFault}
use Rattle.opt_cert.specs.declared.cert_fault.CertFault.TheVariants as fault
use Rattle.opt_cert.specs.declared.cert_line.CertLine.{CertLine}
use Rattle.opt_cert.specs.declared.cert_line.CertLine.TheVariants as line
use Rattle.opt_cert.specs.declared.place.Place.{Place}
use Rattle.opt_cert.specs.declared.place.Place.TheVariants as place
use Rattle.opt_cert.specs.declared.limits.TheConstants.{NUMBER_LIMIT, VALUE_LIMIT}
use Rattle.opt_cert.specs.Numbers.{pieces, numeral, plain_numeral}
use Rattle.opt_cert.specs.Forms.{both, one, two, counted_form, multipliers_form, verdict_form, header_form, root_form, none_form, entries_or_none, point_form, cut_form, node_form, end_form, tree_form, form}
use Rattle.opt_cert.specs.Ranges.{verdict_in_range, number_in_range, cut_value_in_range, row_in_range, multiplier_in_range, multipliers_in_range, value_in_range, quantity_in_range, point_in_range, rises_from, point_rises, is_in_range, is_in_order}
use Rattle.opt_cert.specs.Reading.{judged, line_at}
use Rattle.opt_cert.specs.Stands.{IsVerdict, IsRoot, IsPoint, IsSplit, IsLeaf, StandsInTree, Stands}
use Rattle.opt_cert.specs.Texts.{entry_text, entries_words, multipliers_words, best_word, verdict_words, point_words, words_of, line_text}
use Rattle.opt_cert.proofs.JudgeLemmas.{mapped_some}
use Rattle.opt_cert.proofs.RangeLemmas.{and_true, both_some, then_some, rises-IsRising}
use Rattle.opt_cert.proofs.StandLemmas.{form_stands}
use Rattle.opt_cert.proofs.DecimalLemmas.{IsFree, numeral_decimal, decimal_numeral, plain_signed, signed_plain, free_decimal, free_signed}
use Rattle.opt_cert.proofs.WordLemmas.{AllFree, pieces-join, join-pieces, same_word, chosen_by, only_by, one_back, two_back, free_by}
use Rattle.opt_cert.proofs.VerdictLemmas.{verdict_again, verdict_fits, verdict_back}
use Rattle.opt_cert.proofs.WordsBack.{IsSpelled, multipliers_again, multipliers_back, point_entries_again, point_entries_back, free_entry, rows_spelled, values_spelled}
use Rattle.opt_cert.proofs.LineAgain.{cut_small, Fits}

-- ---- from words to the line
writable_root : (l : CertLine) (m : Multipliers) → l ≡ line.Root m → IsRoot l → AreWritable m
writable_root l m is h =
    let both_are : line.Root h.root ≡ line.Root m = sym h.is ∙ is in
    let same : h.root ≡ m = cc in
    subst AreWritable same h.writable

writable_leaf : (l : CertLine) (m : Multipliers) → l ≡ line.Leaf m → IsSplit l ⊎ IsLeaf l → AreWritable m
writable_leaf l m is (inl h) = let both_are : line.Split h.quantity h.cut ≡ line.Leaf m = sym h.is ∙ is in cc
writable_leaf l m is (inr h) =
    let both_are : line.Leaf h.mult ≡ line.Leaf m = sym h.is ∙ is in
    let same : h.mult ≡ m = cc in
    subst AreWritable same h.writable

point_entries_of : (has : Bool) (l : CertLine) (es : List (ℕ × ℤ)) → l ≡ line.Point (Some es) → IsPoint has l → AreEntries es
point_entries_of has l es is h =
    let both_are : line.Point h.point ≡ line.Point (Some es) = sym h.is ∙ is in
    let same : h.point ≡ Some es = cc in
    subst HasEntries same h.entries

header_back : (words : List (List ℕ)) (l : CertLine) → header_form words ≡ Some l → words_of l ≡ words
header_back words l h =
    let t = then_some (λ p. cond (bytes_eq p.0 (codes "optimus-certificate") && bytes_eq p.1 (codes "1")) (Some line.Header) None) (two words) l h in
    let o = only_by (bytes_eq t.0.0 (codes "optimus-certificate") && bytes_eq t.0.1 (codes "1")) (Some line.Header) l t.2 in
    let w = and_true (bytes_eq t.0.0 (codes "optimus-certificate")) (bytes_eq t.0.1 (codes "1")) o.0 in
    let same : l ≡ line.Header = let e = o.1 in cc in
    ap words_of same
    ∙ ap (λ x. x ∷ codes "1" ∷ []) (sym (same_word t.0.0 (codes "optimus-certificate") w.0))
    ∙ ap (λ x. t.0.0 ∷ x ∷ []) (sym (same_word t.0.1 (codes "1") w.1))
    ∙ two_back words t.0 t.1

verdict_line_back : (words : List (List ℕ)) (l : CertLine) → option_map line.Verdict (verdict_form words) ≡ Some l → is_in_range l ≡ true → words_of l ≡ words
verdict_line_back words l h fits =
    let t = mapped_some line.Verdict (verdict_form words) l h in
    ap words_of t.2 ∙ verdict_back words t.0 t.1 (sym (ap is_in_range t.2) ∙ fits)

root_back : (words : List (List ℕ)) (l : CertLine) → root_form words ≡ Some l → IsRoot l → words_of l ≡ words
root_back [] l h stands = cc
root_back (word ∷ words) l h stands =
    let o = only_by (bytes_eq word (codes "root")) (option_map line.Root (multipliers_form words)) l h in
    let t = mapped_some line.Root (multipliers_form words) l o.1 in
    ap words_of t.2
    ∙ ap (λ w. w ∷ multipliers_words t.0) (sym (same_word word (codes "root") o.0))
    ∙ ap (λ ws. word ∷ ws) (multipliers_back words t.0 t.1 (writable_root l t.0 t.2 stands))

listed_back : (has : Bool) (words : List (List ℕ)) (point : Option (List (ℕ × ℤ))) → entries_or_none has words ≡ Some point → ((es : List (ℕ × ℤ)) → point ≡ Some es → AreEntries es) → point_words point ≡ words
listed_back true words None h entries = let t = mapped_some Some (counted_form plain_numeral words) None h in cc
listed_back true words (Some es) h entries =
    let t = mapped_some Some (counted_form plain_numeral words) (Some es) h in
    let same : t.0 ≡ es = let e = t.2 in cc in
    point_entries_back words es (t.1 ∙ ap Some same) (entries es refl)
listed_back false words None h entries =
    let t = then_some (λ word. cond (bytes_eq word (codes "none")) (Some None) None) (one words) None h in
    let o = only_by (bytes_eq t.0 (codes "none")) (Some None) None t.2 in
    ap (λ w. w ∷ []) (sym (same_word t.0 (codes "none") o.0)) ∙ one_back words t.0 t.1
listed_back false words (Some es) h entries =
    let t = then_some (λ word. cond (bytes_eq word (codes "none")) (Some None) None) (one words) (Some es) h in
    let o = only_by (bytes_eq t.0 (codes "none")) (Some None) (Some es) t.2 in
    cc

point_back : (has : Bool) (words : List (List ℕ)) (l : CertLine) → point_form has words ≡ Some l → IsPoint has l → words_of l ≡ words
point_back has [] l h stands = cc
point_back has (word ∷ words) l h stands =
    let o = only_by (bytes_eq word (codes "point")) (option_map line.Point (entries_or_none has words)) l h in
    let t = mapped_some line.Point (entries_or_none has words) l o.1 in
    ap words_of t.2
    ∙ ap (λ w. w ∷ point_words t.0) (sym (same_word word (codes "point") o.0))
    ∙ ap (λ ws. word ∷ ws) (listed_back has words t.0 t.1 (λ es e. point_entries_of has l es (t.2 ∙ ap line.Point e) stands))

end_back : (words : List (List ℕ)) (l : CertLine) → end_form words ≡ Some l → words_of l ≡ words
end_back words l h =
    let t = then_some (λ word. cond (bytes_eq word (codes "end")) (Some line.End) None) (one words) l h in
    let o = only_by (bytes_eq t.0 (codes "end")) (Some line.End) l t.2 in
    let same : l ≡ line.End = let e = o.1 in cc in
    ap words_of same ∙ ap (λ w. w ∷ []) (sym (same_word t.0 (codes "end") o.0)) ∙ one_back words t.0 t.1

cut_back : (words : List (List ℕ)) (l : CertLine) → cut_form words ≡ Some l → IsSplit l ⊎ IsLeaf l → words_of l ≡ codes "split" ∷ words
cut_back words l h stands =
    let t = then_some (λ p. both line.Split (numeral p.0) (plain_numeral p.1)) (two words) l h in
    let b = both_some line.Split (numeral t.0.0) (plain_numeral t.0.1) l t.2 in
    let s = cut_small b.0 b.1 (writable b.0 b.1 b.4 stands) in
    ap words_of b.4
    ∙ ap (λ w. codes "split" ∷ w ∷ signed_decimal b.1 ∷ []) (decimal_numeral t.0.0 b.0 b.2 s.0)
    ∙ ap (λ w. codes "split" ∷ t.0.0 ∷ w ∷ []) (signed_plain t.0.1 b.1 b.3 s.1)
    ∙ ap (λ ws. codes "split" ∷ ws) (two_back words t.0 t.1)
  where
    same_cut : (j q : ℕ) (t c : ℤ) → line.Split j t ≡ line.Split q c → IsWritableCut j t → IsWritableCut q c
    same_cut j q t c e w =
        let a : j ≡ q = cc in
        let b : t ≡ c = cc in
        let P : ℕ → Type 0 = λ x. IsWritableCut x t in
        let Q : ℤ → Type 0 = λ x. IsWritableCut q x in
        subst Q b (subst P a w)

    writable : (q : ℕ) (c : ℤ) → l ≡ line.Split q c → IsSplit l ⊎ IsLeaf l → IsWritableCut q c
    writable q c is (inl s) = same_cut s.quantity q s.cut c (sym s.is ∙ is) s.writable
    writable q c is (inr s) = let both_are : line.Leaf s.mult ≡ line.Split q c = sym s.is ∙ is in cc

node_back : (words : List (List ℕ)) (l : CertLine) → node_form words ≡ Some l → IsSplit l ⊎ IsLeaf l → words_of l ≡ words
node_back [] l h stands = cc
node_back (word ∷ words) l h stands =
    let leaves = option_map line.Leaf (multipliers_form words) in
    ⊎_elim
    (λ e. cut_back words l e.1 stands ∙ ap (λ w. w ∷ words) (sym (same_word word (codes "split") e.0)))
    (λ e. let o = only_by (bytes_eq word (codes "leaf")) leaves l e.1 in
    let t = mapped_some line.Leaf (multipliers_form words) l o.1 in
    ap words_of t.2
    ∙ ap (λ w. w ∷ multipliers_words t.0) (sym (same_word word (codes "leaf") o.0))
    ∙ ap (λ ws. word ∷ ws) (multipliers_back words t.0 t.1 (writable_leaf l t.0 t.2 stands)))
    (chosen_by (bytes_eq word (codes "split")) (cut_form words) (cond (bytes_eq word (codes "leaf")) leaves None) l h)

tree_back : (trees : ℕ) (words : List (List ℕ)) (l : CertLine) → tree_form trees words ≡ Some l → StandsInTree trees l → words_of l ≡ words
tree_back zero words l h stands = end_back words l h
tree_back (suc k) words l h stands = node_back words l h stands

-- words from which a line is read are the words of it
words_back : (p : Place) (words : List (List ℕ)) (l : CertLine) → form p words ≡ Some l → is_in_range l ≡ true → Stands p l → words_of l ≡ words
words_back place.Header words l h fits stands = header_back words l h
words_back place.Verdict words l h fits stands = verdict_line_back words l h fits
words_back (place.Root has) words l h fits stands = root_back words l h stands
words_back (place.Point has) words l h fits stands = point_back has words l h stands
words_back (place.Nodes trees) words l h fits stands = tree_back trees words l h stands

-- ---- a line that is read
-- the text is that of the line, which stands in its place
pub record IsLineOf (p : Place) (text : List ℕ) (l : CertLine) : Type 0 where
  pub written : line_text l ≡ text
  pub stands : Stands p l

judged_parts : (n : ℕ) (l x : CertLine) (in_range in_order : Bool) → is_in_range l ≡ in_range → is_in_order l ≡ in_order → cond (not in_range) (Err (fault.Range n)) (cond (not in_order) (Err (fault.Order n)) (Ok l)) ≡ Ok x → (l ≡ x) × Fits x
judged_parts n l x true true a b h = let same : l ≡ x = cc in (same, (sym (ap is_in_range same) ∙ a, sym (ap is_in_order same) ∙ b))
judged_parts n l x true false a b h = cc
judged_parts n l x false in_order a b h = cc

read_by : (p : Place) (n : ℕ) (text : List ℕ) (o : Option CertLine) (x : CertLine) → form p (pieces 32 text) ≡ o → (ok_or o (fault.BadLine n) >>= judged n) ≡ Ok x → IsLineOf p text x
read_by p n text None x e h = cc
read_by p n text (Some l) x e h =
    let t = judged_parts n l x (is_in_range l) (is_in_order l) refl refl h in
    let read : form p (pieces 32 text) ≡ Some x = e ∙ ap Some t.0 in
    let stands = form_stands p (pieces 32 text) x read t.1.0 t.1.1 in
    record {
      written = ap (join_with_byte 32) (words_back p (pieces 32 text) x read t.1.0 stands) ∙ join-pieces 32 text;
      stands = stands;
    }

-- a line is read from its own text alone
pub line_back : (p : Place) (n : ℕ) (text : List ℕ) (l : CertLine) → line_at p n text ≡ Ok l → IsLineOf p text l
line_back p n text l h = read_by p n text (form p (pieces 32 text)) l refl h
