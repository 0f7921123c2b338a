-- Lines one after the other: they are read from their text, and from no other.
use Rattle.std.proofs.Common.{◌≡◌, ◌≢◌, ℕ, zero, suc, ◌+◌, ◌<◌, ◌==◌, Bool, true, false, ◌&&◌, not, cond, List, [], ◌∷◌, ◌++◌, length, All, ◌⊎◌, inl, inr, Result, Ok, Err, refl, sym, ap, ◌∙◌, subst, arith}
use mathlib.Core.List.{append_assoc, append-nil}
use Rattle.std.specs.List.{join_with_byte}
use Rattle.std.proofs.lemmas.List.Elements.{All-head, All-tail, All-nil, All-cons}
use Rattle.std.proofs.lemmas.List.Splits.{slice_split_none, slice_split_at}
use Rattle.opt_base.specs.Answers.{◌>>=◌}
use Rattle.opt_cert.specs.declared.cert_fault.CertFault.{CertFault}
use Rattle.opt_cert.specs.declared.cert_fault.CertFault.TheVariants.{Truncated, Trailing}
use Rattle.opt_cert.specs.declared.cert_line.CertLine.{CertLine}
use Rattle.opt_cert.specs.declared.cert_line.CertLine.TheVariants as line
use Rattle.opt_cert.specs.declared.place.Place.{Place}
use Rattle.opt_cert.specs.Numbers.{pieces}
use Rattle.opt_cert.specs.Reading.{line_at, is_last, has_bytes, unless_trailing, next_of, place_after, onto, lines_from}
use Rattle.opt_cert.specs.Stands.{Stands}
use Rattle.opt_cert.specs.Texts.{line_text, text_of_lines}
use Rattle.opt_cert.proofs.DecimalLemmas.{IsFree}
use Rattle.opt_cert.proofs.ReadLemmas.{line_at_is, next_at, has_bytes_rest}
use Rattle.opt_cert.proofs.LineAgain.{line_free, line_again}
use Rattle.opt_cert.proofs.LineBack.{IsLineOf, line_back}

-- ---- lines that may follow one another
-- from this place on each line stands rightly, up to the last one
abbrev pub Follows : Place → List CertLine → Type 0
Follows p [] = ⊥
Follows p (l ∷ []) = Stands p l × (l ≡ line.End)
Follows p (l ∷ m ∷ ls) = Stands p l × (is_last l ≡ false) × Follows (place_after p l) (m ∷ ls)

pub follows_more : (p : Place) (l : CertLine) (ls : List CertLine) → Stands p l → is_last l ≡ false → Follows (place_after p l) ls → Follows p (l ∷ ls)
follows_more p l [] stands more h = absurd h
follows_more p l (m ∷ ls) stands more h = (stands, more, h)

last_is : (l : CertLine) → is_last l ≡ true → l ≡ line.End
last_is line.End h = refl
last_is line.Header h = cc
last_is (line.Verdict v) h = cc
last_is (line.Root m) h = cc
last_is (line.Point point) h = cc
last_is (line.Split j t) h = cc
last_is (line.Leaf m) h = cc

-- ---- from lines to their text
text_step : (l : CertLine) (ls : List CertLine) (more : List ℕ) → text_of_lines (l ∷ ls) ++ more ≡ line_text l ++ 10 ∷ (text_of_lines ls ++ more)
text_step l ls more =
    ap (λ xs. xs ++ more) (append_assoc (line_text l) (10 ∷ []) (text_of_lines ls))
    ∙ append_assoc (line_text l) (10 ∷ text_of_lines ls) more

feed_first : (text rest : List ℕ) → IsFree 10 text → pieces 10 (text ++ 10 ∷ rest) ≡ text ∷ pieces 10 rest
feed_first text rest free = slice_split_at (λ b. b == 10) text 10 rest free refl

-- the line that stands next
next_again : (p : Place) (n : ℕ) (l : CertLine) (rest : List ℕ) → Stands p l → next_of p n (line_text l ∷ pieces 10 rest) ≡ unless_trailing (pieces 10 rest) l
next_again p n l rest stands =
    next_at p n (line_text l) rest
    ∙ ap (λ r. r >>= unless_trailing (pieces 10 rest)) (sym (line_at_is p n (line_text l)) ∙ line_again p n l stands)

step_again : (p : Place) (k : ℕ) (l : CertLine) (rest : List ℕ) → Stands p l → lines_from p k (pieces 10 (line_text l ++ 10 ∷ rest)) ≡ (unless_trailing (pieces 10 rest) l >>= λ x. onto x (lines_from (place_after p x) (k + 1) (pieces 10 rest)))
step_again p k l rest stands =
    ap (lines_from p k) (feed_first (line_text l) rest (line_free p l stands))
    ∙ ap (λ r. r >>= λ x. onto x (lines_from (place_after p x) (k + 1) (pieces 10 rest))) (next_again p (k + 1) l rest stands)

-- the lines, unless bytes follow the last one
abbrev unless_more : List ℕ → List CertLine → Result (List CertLine) CertFault
unless_more more ls = cond (has_bytes (pieces 10 more)) (Err Trailing) (Ok ls)

one_more : (b : Bool) (l : CertLine) (ls : List CertLine) → ((cond b (Err Trailing) (Ok ls)) >>= λ lines. Ok (l ∷ lines)) ≡ cond b (Err Trailing) (Ok (l ∷ ls))
one_more true l ls = refl
one_more false l ls = refl

-- lines are read from their text, and bytes after it are told
pub lines_again : (ls : List CertLine) (p : Place) (k : ℕ) (more : List ℕ) → Follows p ls → lines_from p k (pieces 10 (text_of_lines ls ++ more)) ≡ unless_more more ls
lines_again [] p k more h = absurd h
lines_again (l ∷ []) p k more h =
    ap (λ xs. lines_from p k (pieces 10 xs)) (text_step l [] more)
    ∙ step_again p k l more h.0
    ∙ subst (λ x. (unless_trailing (pieces 10 more) x >>= λ y. onto y (lines_from (place_after p y) (k + 1) (pieces 10 more))) ≡ unless_more more (x ∷ [])) (sym h.1) (last_again (has_bytes (pieces 10 more)))
  where
    last_again : (b : Bool) → ((cond b (Err Trailing) (Ok line.End)) >>= λ y. onto y (lines_from (place_after p y) (k + 1) (pieces 10 more))) ≡ cond b (Err Trailing) (Ok (line.End ∷ []))
    last_again true = refl
    last_again false = refl
lines_again (l ∷ m ∷ ls) p k more h =
    ap (λ xs. lines_from p k (pieces 10 xs)) (text_step l (m ∷ ls) more)
    ∙ step_again p k l (text_of_lines (m ∷ ls) ++ more) h.0
    ∙ ap (λ b. cond (b && has_bytes (pieces 10 (text_of_lines (m ∷ ls) ++ more))) (Err Trailing) (Ok l) >>= λ x. onto x (lines_from (place_after p x) (k + 1) (pieces 10 (text_of_lines (m ∷ ls) ++ more)))) h.1
    ∙ ap (λ r. onto l r) (lines_again (m ∷ ls) (place_after p l) (k + 1) more h.2)
    ∙ ap (λ b. cond b (Ok (l ∷ [])) (unless_more more (m ∷ ls) >>= λ lines. Ok (l ∷ lines))) h.1
    ∙ one_more (has_bytes (pieces 10 more)) l (m ∷ ls)

-- ---- from a text to its lines
then_ok : {A B E : Type 0} (r : Result A E) (f : A → Result B E) (y : B) → (r >>= f) ≡ Ok y → (x : A) × (r ≡ Ok x) × (f x ≡ Ok y)
then_ok (Ok x) f y h = (x, refl, h)
then_ok (Err e) f y h = cc

not_trailing : (b : Bool) (l x : CertLine) → cond b (Err Trailing) (Ok l) ≡ Ok x → (b ≡ false) × (l ≡ x)
not_trailing true l x h = cc
not_trailing false l x h = (refl, cc)

no_bytes : (ps : List (List ℕ)) → has_bytes ps ≡ false → 0 < length ps → ps ≡ [] ∷ []
no_bytes [] h some = absurd (omega arith)
no_bytes ([] ∷ []) h some = refl
no_bytes ([] ∷ p ∷ ps) h some = cc
no_bytes ((x ∷ xs) ∷ ps) h some = cc

-- the pieces are those of the text of these lines, which may follow one another
record AreLinesOf (p : Place) (ps : List (List ℕ)) (ls : List CertLine) : Type 0 where
  written : join_with_byte 10 ps ≡ text_of_lines ls
  follows : Follows p ls

line_first : (text : List ℕ) (l : CertLine) (rest : List ℕ) (ls : List CertLine) → line_text l ≡ text → rest ≡ text_of_lines ls → text ++ 10 ∷ rest ≡ text_of_lines (l ∷ ls)
line_first text l rest ls same others =
    ap (λ xs. text ++ 10 ∷ xs) others
    ∙ ap (λ xs. xs ++ 10 ∷ text_of_lines ls) (sym same)
    ∙ sym (append_assoc (line_text l) (10 ∷ []) (text_of_lines ls))

module _ (p : Place) (text more : List ℕ) (after : List (List ℕ)) (l : CertLine) (is : IsLineOf p text l) where
  one_line : (b : Bool) → is_last l ≡ b → (is_last l && has_bytes (more ∷ after)) ≡ false → (r : Result (List CertLine) CertFault) (ls : List CertLine) → ((xs : List CertLine) → r ≡ Ok xs → AreLinesOf (place_after p l) (more ∷ after) xs) → onto l r ≡ Ok ls → AreLinesOf p (text ∷ more ∷ after) ls
  one_line true last none r ls others h =
      let nothing : has_bytes (more ∷ after) ≡ false = sym (ap (λ b. b && has_bytes (more ∷ after)) last) ∙ none in
      let end : ◌≡◌ {A = Result (List CertLine) CertFault} (Ok (l ∷ [])) (Ok ls) = sym (ap (λ b. cond b (Ok (l ∷ [])) (r >>= λ lines. Ok (l ∷ lines))) last) ∙ h in
      let same : l ∷ [] ≡ ls = cc in
      subst (AreLinesOf p (text ∷ more ∷ after)) same
      (record {
        written = ap (λ ps. join_with_byte 10 (text ∷ ps)) (no_bytes (more ∷ after) nothing (omega arith)) ∙ line_first text l [] [] is.written refl;
        follows = (is.stands, last_is l last);
      })
  one_line false last none r ls others h =
      let t = then_ok r (λ lines. Ok (l ∷ lines)) ls (sym (ap (λ b. cond b (Ok (l ∷ [])) (r >>= λ lines. Ok (l ∷ lines))) last) ∙ h) in
      let same : l ∷ t.0 ≡ ls = let e = t.2 in cc in
      let rest = others t.0 t.1 in
      subst (AreLinesOf p (text ∷ more ∷ after)) same
      (record {
        written = line_first text l (join_with_byte 10 (more ∷ after)) t.0 is.written rest.written;
        follows = follows_more p l t.0 is.stands last rest.follows;
      })

lines_back : (ps : List (List ℕ)) (p : Place) (k : ℕ) (ls : List CertLine) → lines_from p k ps ≡ Ok ls → AreLinesOf p ps ls
lines_back [] p k ls h = cc
lines_back (text ∷ []) p k ls h = cc
lines_back (text ∷ more ∷ after) p k ls h =
    let t = then_ok (next_of p (k + 1) (text ∷ more ∷ after)) (λ x. onto x (lines_from (place_after p x) (k + 1) (more ∷ after))) ls h in
    let n = then_ok (line_at p (k + 1) text) (unless_trailing (more ∷ after)) t.0 t.1 in
    let e = not_trailing (is_last n.0 && has_bytes (more ∷ after)) n.0 t.0 n.2 in
    let is : IsLineOf p text t.0 = subst (IsLineOf p text) e.1 (line_back p (k + 1) text n.0 n.1) in
    let none : (is_last t.0 && has_bytes (more ∷ after)) ≡ false = sym (ap (λ x. is_last x && has_bytes (more ∷ after)) e.1) ∙ e.0 in
    one_line p text more after t.0 is (is_last t.0) refl none (lines_from (place_after p t.0) (k + 1) (more ∷ after)) ls
    (λ xs f. lines_back (more ∷ after) (place_after p t.0) (k + 1) xs f) t.2

-- lines that are read are those of the text
pub pieces_back : (ps : List (List ℕ)) (p : Place) (k : ℕ) (ls : List CertLine) → lines_from p k ps ≡ Ok ls → (join_with_byte 10 ps ≡ text_of_lines ls) × Follows p ls
pieces_back ps p k ls h = let t = lines_back ps p k ls h in (t.written, t.follows)

-- ---- the beginning of a text
-- where two texts are one, and the second goes on after a line feed, the first ends before it or goes on after it too
cut_front : (front missing text rest : List ℕ) → front ++ missing ≡ text ++ 10 ∷ rest → ((more : List ℕ) × (text ≡ front ++ more)) ⊎ ((more : List ℕ) × (front ≡ text ++ 10 ∷ more) × (more ++ missing ≡ rest))
cut_front [] missing text rest h = inl (text, refl)
cut_front (x ∷ front) missing [] rest h =
    let first : x ≡ 10 = cc in
    let others : front ++ missing ≡ rest = cc in
    inr (front, ap (λ y. y ∷ front) first, others)
cut_front (x ∷ front) missing (y ∷ text) rest h =
    let first : x ≡ y = cc in
    let others : front ++ missing ≡ text ++ 10 ∷ rest = cc in
    longer first (cut_front front missing text rest others)
  where
    longer : x ≡ y → ((more : List ℕ) × (text ≡ front ++ more)) ⊎ ((more : List ℕ) × (front ≡ text ++ 10 ∷ more) × (more ++ missing ≡ rest)) → ((more : List ℕ) × (y ∷ text ≡ (x ∷ front) ++ more)) ⊎ ((more : List ℕ) × (x ∷ front ≡ (y ∷ text) ++ 10 ∷ more) × (more ++ missing ≡ rest))
    longer first (inl p) = inl (p.0, ap (λ z. z ∷ text) (sym first) ∙ ap (λ zs. x ∷ zs) p.1)
    longer first (inr p) = inr (p.0, ap (λ z. z ∷ front) first ∙ ap (λ zs. y ∷ zs) p.1, p.2)

free_front : (xs ys : List ℕ) → IsFree 10 (xs ++ ys) → IsFree 10 xs
free_front [] ys h = All-nil (λ b. (b == 10) ≡ false)
free_front (x ∷ xs) ys h =
    All-cons (λ b. (b == 10) ≡ false) x xs (All-head (λ b. (b == 10) ≡ false) x (xs ++ ys) h) (free_front xs ys (All-tail (λ b. (b == 10) ≡ false) x (xs ++ ys) h))

-- no line is complete
no_line : (p : Place) (k : ℕ) (front : List ℕ) → IsFree 10 front → lines_from p k (pieces 10 front) ≡ Err Truncated
no_line p k front free = ap (lines_from p k) (slice_split_none (λ b. b == 10) front free)

-- where bytes are missing, the text is cut off
pub front_again : (ls : List CertLine) (p : Place) (k : ℕ) (front missing : List ℕ) → Follows p ls → missing ≢ [] → front ++ missing ≡ text_of_lines ls → lines_from p k (pieces 10 front) ≡ Err Truncated
front_again [] p k front missing h some is = absurd h
front_again (l ∷ []) p k front missing h some is =
    ended (cut_front front missing (line_text l) [] (is ∙ append_assoc (line_text l) (10 ∷ []) []))
  where
    nothing : (xs ys : List ℕ) → xs ++ ys ≡ [] → ys ≡ []
    nothing [] ys e = e
    nothing (x ∷ xs) ys e = cc

    ended : ((more : List ℕ) × (line_text l ≡ front ++ more)) ⊎ ((more : List ℕ) × (front ≡ line_text l ++ 10 ∷ more) × (more ++ missing ≡ [])) → lines_from p k (pieces 10 front) ≡ Err Truncated
    ended (inl t) = no_line p k front (free_front front t.0 (subst (IsFree 10) t.1 (line_free p l h.0)))
    ended (inr t) = absurd (some (nothing t.0 missing t.2))
front_again (l ∷ m ∷ ls) p k front missing h some is =
    ended (λ xs e. front_again (m ∷ ls) (place_after p l) (k + 1) xs missing h.2 some e)
    (cut_front front missing (line_text l) (text_of_lines (m ∷ ls)) (is ∙ append_assoc (line_text l) (10 ∷ []) (text_of_lines (m ∷ ls))))
  where
    ended : ((xs : List ℕ) → xs ++ missing ≡ text_of_lines (m ∷ ls) → lines_from (place_after p l) (k + 1) (pieces 10 xs) ≡ Err Truncated) → ((more : List ℕ) × (line_text l ≡ front ++ more)) ⊎ ((more : List ℕ) × (front ≡ line_text l ++ 10 ∷ more) × (more ++ missing ≡ text_of_lines (m ∷ ls))) → lines_from p k (pieces 10 front) ≡ Err Truncated
    ended others (inl t) = no_line p k front (free_front front t.0 (subst (IsFree 10) t.1 (line_free p l h.0)))
    ended others (inr t) =
        ap (λ xs. lines_from p k (pieces 10 xs)) t.1
        ∙ step_again p k l t.0 h.0
        ∙ ap (λ b. cond (b && has_bytes (pieces 10 t.0)) (Err Trailing) (Ok l) >>= λ x. onto x (lines_from (place_after p x) (k + 1) (pieces 10 t.0))) h.1
        ∙ ap (λ r. onto l r) (others t.0 t.2)
        ∙ ap (λ b. cond b (Ok (l ∷ [])) (Err Truncated)) h.1
