-- The steps of the loop over the lines of a certificate's text.
use Rattle.std.proofs.Common.{◌≡◌, ℕ, ◌+◌, ◌≤◌, ◌<◌, ◌^◌, Bool, false, cond, eqb, List, [], ◌∷◌, ◌++◌, length, All, Option, Some, None, Result, Ok, Err, ℤ, refl, ap, sym, ◌∙◌, arith, append_assoc}
use Rattle.std.proofs.lemmas.List.Splits.{length-slice_split}
use Rattle.std.proofs.lemmas.List.Sums.{count_by-le-length}
use Rattle.std.proofs.lemmas.List.Elements.{All-cons, All-nil}
use Rattle.opt_base.specs.Answers.{◌>>=◌}
use Rattle.opt_system.specs.Ranges.{LiesIn}
use Rattle.opt_system.proofs.CutLemmas.{LiesIn-refl}
use Rattle.opt_system.specs.Systems.{System}
use Rattle.opt_tree.specs.declared.check_fault.CheckFault.{CheckFault}
use Rattle.opt_cert.specs.declared.cert_fault.CertFault.{CertFault}
use Rattle.opt_cert.specs.declared.cert_fault.CertFault.TheVariants.{OutOfMemory}
use Rattle.opt_cert.specs.declared.cert_line.CertLine.{CertLine}
use Rattle.opt_cert.specs.declared.cert_line.CertLine.TheVariants as line
use Rattle.opt_cert.specs.Reading.{Reader, next_line, next_of, is_last, onto, lines_from, lines_left, reader_after, reader_of, rest_of, place_after, text_lines, Fails}
use Rattle.opt_check.specs.declared.progress.Progress.{Progress}
use Rattle.opt_check.specs.Bytes.{IsPassed}
use Rattle.opt_check.specs.Progress.{first_progress, at_hand, after_line}

-- the lines one by one, up to the first fault
abbrev pub take_lines : System → ℤ → List CertLine → Result Progress CheckFault → Result Progress CheckFault
take_lines s gap [] p = p
take_lines s gap (l ∷ lines) p = take_lines s gap lines (after_line s gap l p)

pub take_lines-append : (s : System) (gap : ℤ) (xs ys : List CertLine) (p : Result Progress CheckFault) → take_lines s gap (xs ++ ys) p ≡ take_lines s gap ys (take_lines s gap xs p)
take_lines-append s gap [] ys p = refl
take_lines-append s gap (x ∷ xs) ys p = take_lines-append s gap xs ys (after_line s gap x p)

-- these lines were read, and what is left of the text goes on with them
pub record IsReadTo (s : System) (gap : ℤ) (bytes : List ℕ) (r : Reader) (held : Option CheckFault) (p : Progress) : Type 0 where
  pub done : List CertLine
  pub left : text_lines bytes ≡ (lines_left r >>= λ lines. Ok (done ++ lines))
  pub taken : at_hand held p ≡ take_lines s gap done (Ok (first_progress s))
  pub within : held ≡ None → All (LiesIn s.root) p.walk
  pub counted : held ≡ None → p.seen.nodes ≤ r.passed
  pub few : r.passed + length r.pieces ≤ 2 ^ 32

-- ---- one line
lines_step : (r : Reader) → lines_left r ≡ (next_line r >>= λ l. onto l (lines_from (place_after r.place l) (r.passed + 1) (rest_of r.pieces)))
lines_step r = by_pieces r.pieces
  where
    by_pieces : (pieces : List (List ℕ)) → lines_from r.place r.passed pieces ≡ (next_of r.place (r.passed + 1) pieces >>= λ l. onto l (lines_from (place_after r.place l) (r.passed + 1) (rest_of pieces)))
    by_pieces [] = refl
    by_pieces (text ∷ rest) = refl

-- at the last line
pub lines_last : (r : Reader) → next_line r ≡ Ok line.End → lines_left r ≡ Ok (line.End ∷ [])
lines_last r next =
    lines_step r ∙ ap (λ (n : Result CertLine CertFault). n >>= λ l. onto l (lines_from (place_after r.place l) (r.passed + 1) (rest_of r.pieces))) next

-- at a fault
pub lines_fault : (r : Reader) (fault : CertFault) → next_line r ≡ Err fault → lines_left r ≡ Err fault
lines_fault r fault next =
    lines_step r ∙ ap (λ (n : Result CertLine CertFault). n >>= λ l. onto l (lines_from (place_after r.place l) (r.passed + 1) (rest_of r.pieces))) next

-- where a reader stands after a line before the last
abbrev passed_reader : Reader → CertLine → Reader
passed_reader r l = record { place = place_after r.place l; passed = r.passed + 1; pieces = rest_of r.pieces }

reader_more : (r : Reader) (l : CertLine) → is_last l ≡ false → reader_after r l ≡ passed_reader r l
reader_more r l more = ap (λ (b : Bool). cond b r (passed_reader r l)) more

-- at a line before the last
pub lines_more : (r : Reader) (l : CertLine) → next_line r ≡ Ok l → is_last l ≡ false → lines_left r ≡ (lines_left (reader_after r l) >>= λ lines. Ok (l ∷ lines))
lines_more r l next more =
    lines_step r
    ∙ ap (λ (n : Result CertLine CertFault). n >>= λ l. onto l (lines_from (place_after r.place l) (r.passed + 1) (rest_of r.pieces))) next
    ∙ ap (λ (b : Bool). cond b (Ok (l ∷ [])) (lines_left (passed_reader r l) >>= λ lines. Ok (l ∷ lines))) more
    ∙ sym (ap (λ (q : Reader). lines_left q >>= λ lines. Ok (l ∷ lines)) (reader_more r l more))

-- a line before the last has one more piece after it
pub pieces_more : (r : Reader) (l : CertLine) → next_line r ≡ Ok l → 2 ≤ length r.pieces
pieces_more r l next = by_pieces r.pieces next
  where
    by_pieces : (pieces : List (List ℕ)) → next_of r.place (r.passed + 1) pieces ≡ Ok l → 2 ≤ length pieces
    by_pieces [] h = cc
    by_pieces (rest ∷ []) h = cc
    by_pieces (text ∷ more ∷ after) h = omega arith

length-rest : (pieces : List (List ℕ)) → 2 ≤ length pieces → length (rest_of pieces) + 1 ≡ length pieces
length-rest [] h = absurd (omega arith)
length-rest (x ∷ pieces) h = omega arith

then_then : {A B C : Type 0} (r : Result A CertFault) (f : A → B) (g : B → C) → ((r >>= λ x. Ok (f x)) >>= λ y. Ok (g y)) ≡ (r >>= λ x. Ok (g (f x)))
then_then (Ok x) f g = refl
then_then (Err e) f g = refl

then_same : {A B : Type 0} (r : Result A CertFault) (f g : A → B) → ((x : A) → f x ≡ g x) → (r >>= λ x. Ok (f x)) ≡ (r >>= λ x. Ok (g x))
then_same (Ok x) f g h = ap Ok (h x)
then_same (Err e) f g h = refl

-- before the first line
pub read_first : (s : System) (gap : ℤ) (bytes : List ℕ) → length bytes < 2 ^ 32 → IsReadTo s gap bytes (reader_of bytes) None (first_progress s)
read_first s gap bytes few = record {
  done = [];
  left = as_it_is (text_lines bytes);
  taken = refl;
  within = λ _. All-cons (LiesIn s.root) s.root [] (LiesIn-refl s.root) (All-nil (LiesIn s.root));
  counted = λ _. omega arith;
  few = omega (arith, length-slice_split (λ b. eqb b 10) bytes, count_by-le-length (λ b. eqb b 10) bytes);
}
  where
    as_it_is : (r : Result (List CertLine) CertFault) → r ≡ (r >>= λ lines. Ok ([] ++ lines))
    as_it_is (Ok lines) = refl
    as_it_is (Err e) = refl

-- no fault is held where none is after one line more
none_held : (s : System) (gap : ℤ) (held after : Option CheckFault) (p n : Progress) (l : CertLine) → at_hand after n ≡ after_line s gap l (at_hand held p) → after ≡ None → held ≡ None
none_held s gap None after p n l is e = refl
none_held s gap (Some fault) None p n l is e = cc
none_held s gap (Some fault) (Some other) p n l is e = cc

-- one line more was taken
pub read_more : (s : System) (gap : ℤ) (bytes : List ℕ) (r q : Reader) (held after : Option CheckFault) (p n : Progress) (l : CertLine) → IsReadTo s gap bytes r held p → IsPassed r q l → at_hand after n ≡ after_line s gap l (at_hand held p) → (after ≡ None → All (LiesIn s.root) n.walk) → (after ≡ None → n.seen.nodes ≤ p.seen.nodes + 1) → IsReadTo s gap bytes q after n
read_more s gap bytes r q held after p n l so_far passed is within counted =
    let moved : q ≡ passed_reader r l = passed.after ∙ reader_more r l passed.not_last in
    let many : 2 ≤ length r.pieces = pieces_more r l passed.next in
    let gone : q.passed ≡ r.passed + 1 = ap (λ (x : Reader). x.passed) moved in
    let pieces : length q.pieces + 1 ≡ length r.pieces = ap (λ (x : Reader). length x.pieces + 1) moved ∙ length-rest r.pieces many in
    record {
      done = so_far.done ++ l ∷ [];
      left =
          so_far.left
          ∙ ap (λ (x : Result (List CertLine) CertFault). x >>= λ lines. Ok (so_far.done ++ lines)) (lines_more r l passed.next passed.not_last)
          ∙ then_then (lines_left (reader_after r l)) (λ lines. l ∷ lines) (λ lines. so_far.done ++ lines)
          ∙ then_same (lines_left (reader_after r l)) (λ lines. so_far.done ++ l ∷ lines) (λ lines. (so_far.done ++ l ∷ []) ++ lines) (λ lines. sym (append_assoc so_far.done (l ∷ []) lines))
          ∙ ap (λ (x : Reader). lines_left x >>= λ lines. Ok ((so_far.done ++ l ∷ []) ++ lines)) (sym passed.after);
      taken = is ∙ ap (after_line s gap l) so_far.taken ∙ sym (take_lines-append s gap so_far.done (l ∷ []) (Ok (first_progress s)));
      within = within;
      counted = λ e. omega (arith, counted e, so_far.counted (none_held s gap held after p n l is e), gone);
      few = omega (arith, so_far.few, gone, pieces);
    }

-- and fewer are left
pub pieces_fewer : (r q : Reader) (l : CertLine) → IsPassed r q l → length q.pieces < length r.pieces
pieces_fewer r q l passed =
    omega (arith, ap (λ (x : Reader). length x.pieces) (passed.after ∙ reader_more r l passed.not_last), length-rest r.pieces (pieces_more r l passed.next))

-- there is room for one node more
pub room_for_line : (s : System) (gap : ℤ) (bytes : List ℕ) (r : Reader) (held : Option CheckFault) (p : Progress) (l : CertLine) → IsReadTo s gap bytes r held p → next_line r ≡ Ok l → held ≡ None → p.seen.nodes + 1 < 2 ^ 32
room_for_line s gap bytes r held p l so_far next e = omega (arith, so_far.counted e, so_far.few, pieces_more r l next)

-- ---- at the end
-- all lines of the text
pub read_all : (s : System) (gap : ℤ) (bytes : List ℕ) (r : Reader) (held : Option CheckFault) (p : Progress) → (so_far : IsReadTo s gap bytes r held p) → next_line r ≡ Ok line.End → text_lines bytes ≡ Ok (so_far.done ++ line.End ∷ [])
read_all s gap bytes r held p so_far next =
    so_far.left ∙ ap (λ (x : Result (List CertLine) CertFault). x >>= λ lines. Ok (so_far.done ++ lines)) (lines_last r next)

pub taken_all : (s : System) (gap : ℤ) (bytes : List ℕ) (r : Reader) (held : Option CheckFault) (p : Progress) → (so_far : IsReadTo s gap bytes r held p) → at_hand held p ≡ take_lines s gap (so_far.done ++ line.End ∷ []) (Ok (first_progress s))
taken_all s gap bytes r held p so_far =
    ended (at_hand held p)
    ∙ ap (after_line s gap line.End) so_far.taken
    ∙ sym (take_lines-append s gap so_far.done (line.End ∷ []) (Ok (first_progress s)))
  where
    ended : (x : Result Progress CheckFault) → x ≡ after_line s gap line.End x
    ended (Ok q) = refl
    ended (Err e) = refl

-- a fault of the text
pub read_fault : (s : System) (gap : ℤ) (bytes : List ℕ) (r : Reader) (held : Option CheckFault) (p : Progress) (fault : CertFault) → IsReadTo s gap bytes r held p → Fails fault (next_line r) → Fails fault (text_lines bytes)
read_fault s gap bytes r held p OutOfMemory so_far failed = tt
read_fault s gap bytes r held p fault so_far failed =
    so_far.left ∙ ap (λ (x : Result (List CertLine) CertFault). x >>= λ lines. Ok (so_far.done ++ lines)) (lines_fault r fault failed)
