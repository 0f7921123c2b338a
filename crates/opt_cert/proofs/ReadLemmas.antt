-- One line of a text, and what is read of it.
use Rattle.std.proofs.Common.{◌≡◌, ℕ, zero, suc, ◌+◌, ◌<◌, ◌==◌, Bool, true, false, ◌&&◌, not, cond, List, [], ◌∷◌, length, Option, Some, None, Result, Ok, Err, IfOk, refl, sym, ap, ◌∙◌, subst, arith}
use Rattle.std.specs.List.{slice_split, onto_first}
use Rattle.std.specs.Option.{ok_or}
use Rattle.std.proofs.lemmas.List.Splits.{length-slice_split}
use Rattle.std.proofs.lemmas.Bool.Decides.{nat_tests}
use Rattle.opt_base.specs.Answers.{◌>>=◌}
use Rattle.opt_cert.specs.declared.cert_fault.CertFault.{CertFault}
use Rattle.opt_cert.specs.declared.cert_fault.CertFault.TheVariants as fault
use Rattle.opt_cert.specs.declared.cert_line.CertLine.{CertLine}
use Rattle.opt_cert.specs.declared.line_fault.LineFault.{LineFault}
use Rattle.opt_cert.specs.declared.line_fault.LineFault.TheVariants.{BadLine, Range, Order, OutOfMemory}
use Rattle.opt_cert.specs.declared.place.Place.{Place}
use Rattle.opt_cert.specs.Numbers.{pieces}
use Rattle.opt_cert.specs.Forms.{form}
use Rattle.opt_cert.specs.Ranges.{is_in_range, is_in_order}
use Rattle.opt_cert.specs.Judging.{judged_line, ordered, ranged, numbered, fault_at, LineFails}
use Rattle.opt_cert.specs.Stands.{Stands}
use Rattle.opt_cert.proofs.StandLemmas.{form_stands}
use Rattle.opt_cert.specs.Reading.{Tells, Fails, judged, line_at, next_of, unless_trailing, has_bytes, is_last}

-- ---- the judgement of a line, with its number
judged_cases : (n : ℕ) (l : CertLine) (fits rises : Bool) → cond (not fits) (Err (fault.Range n)) (cond (not rises) (Err (fault.Order n)) (Ok l)) ≡ numbered n (ordered (λ x. rises) (cond fits (Ok l) (Err Range)))
judged_cases n l true true = refl
judged_cases n l true false = refl
judged_cases n l false true = refl
judged_cases n l false false = refl

ordered_cases : (l : CertLine) (fits : Bool) → ordered (λ x. is_in_order l) (cond fits (Ok l) (Err Range)) ≡ ordered is_in_order (cond fits (Ok l) (Err Range))
ordered_cases l true = refl
ordered_cases l false = refl

line_at_cases : (n : ℕ) (o : Option CertLine) → (ok_or o (fault.BadLine n) >>= judged n) ≡ numbered n (judged_line o)
line_at_cases n None = refl
line_at_cases n (Some l) = judged_cases n l (is_in_range l) (is_in_order l) ∙ ap (numbered n) (ordered_cases l (is_in_range l))

pub line_at_is : (p : Place) (n : ℕ) (text : List ℕ) → line_at p n text ≡ numbered n (judged_line (form p (pieces 32 text)))
line_at_is p n text = line_at_cases n (form p (pieces 32 text))

-- ---- what follows a line
some_piece : (b : ℕ) (parts : List (List ℕ)) (same : Bool) → 0 < length parts → has_bytes (cond same ([] ∷ parts) (onto_first b parts)) ≡ true
some_piece b [] same h = absurd (omega arith)
some_piece b (part ∷ parts) true h = refl
some_piece b (part ∷ []) false h = refl
some_piece b (part ∷ more ∷ parts) false h = refl

pub pieces_some : (c : ℕ) (xs : List ℕ) → 0 < length (pieces c xs)
pieces_some c xs = omega (arith, length-slice_split (λ b. b == c) xs)

pub has_bytes_rest : (xs : List ℕ) → has_bytes (pieces 10 xs) ≡ not (length xs == 0)
has_bytes_rest [] = refl
has_bytes_rest (b ∷ bs) =
    let more : not (length (b ∷ bs) == 0) ≡ true = grind (arith, nat_tests) in
    some_piece b (pieces 10 bs) (b == 10) (pieces_some 10 bs) ∙ sym more

next_at_pieces : (p : Place) (n : ℕ) (text : List ℕ) (after : List (List ℕ)) → 0 < length after → next_of p n (text ∷ after) ≡ (line_at p n text >>= unless_trailing after)
next_at_pieces p n text [] h = absurd (omega arith)
next_at_pieces p n text (more ∷ after) h = refl

pub next_at : (p : Place) (n : ℕ) (text rest : List ℕ) → next_of p n (text ∷ pieces 10 rest) ≡ (numbered n (judged_line (form p (pieces 32 text))) >>= unless_trailing (pieces 10 rest))
next_at p n text rest =
    next_at_pieces p n text (pieces 10 rest) (pieces_some 10 rest)
    ∙ ap (λ r. r >>= unless_trailing (pieces 10 rest)) (line_at_is p n text)

-- ---- what calls answer
pub exact_tells : {Y : Type 0} (r read : Result Y CertFault) → r ≡ read → Tells (λ y. y) r read
exact_tells (Ok y) read h = sym h
exact_tells (Err (fault.BadLine n)) read h = sym h
exact_tells (Err (fault.Range n)) read h = sym h
exact_tells (Err (fault.Order n)) read h = sym h
exact_tells (Err fault.Truncated) read h = sym h
exact_tells (Err fault.Trailing) read h = sym h
exact_tells (Err fault.OutOfMemory) read h = tt

pub line_told : (p : Place) (n : ℕ) (text rest : List ℕ) (l : CertLine) (r : Result CertLine CertFault) → judged_line (form p (pieces 32 text)) ≡ Ok l → r ≡ unless_trailing (pieces 10 rest) l → Tells (λ y. y) r (next_of p n (text ∷ pieces 10 rest))
line_told p n text rest l r read same =
    exact_tells r _ (same ∙ sym (next_at p n text rest ∙ ap (λ x. numbered n x >>= unless_trailing (pieces 10 rest)) read))

stopped : (p : Place) (n : ℕ) (text rest : List ℕ) (f : LineFault) → judged_line (form p (pieces 32 text)) ≡ Err f → next_of p n (text ∷ pieces 10 rest) ≡ Err (fault_at n f)
stopped p n text rest f read = next_at p n text rest ∙ ap (λ x. numbered n x >>= unless_trailing (pieces 10 rest)) read

pub fault_told_at : (p : Place) (n : ℕ) (text rest : List ℕ) (f : LineFault) → LineFails f (judged_line (form p (pieces 32 text))) → Fails (fault_at n f) (next_of p n (text ∷ pieces 10 rest))
fault_told_at p n text rest BadLine h = stopped p n text rest BadLine h
fault_told_at p n text rest Range h = stopped p n text rest Range h
fault_told_at p n text rest Order h = stopped p n text rest Order h
fault_told_at p n text rest OutOfMemory h = tt

-- ---- what is known of the next line
fits_cases : (n : ℕ) (l x : CertLine) (fits rises : Bool) → is_in_range l ≡ fits → is_in_order l ≡ rises → cond (not fits) (Err (fault.Range n)) (cond (not rises) (Err (fault.Order n)) (Ok l)) ≡ Ok x → (l ≡ x) × (is_in_range x ≡ true) × (is_in_order x ≡ true)
fits_cases n l x true true a b h = let same : l ≡ x = cc in (same, sym (ap is_in_range same) ∙ a, sym (ap is_in_order same) ∙ b)
fits_cases n l x true false a b h = cc
fits_cases n l x false rises a b h = cc

stands_by : (p : Place) (n : ℕ) (words : List (List ℕ)) (o : Option CertLine) (x : CertLine) → form p words ≡ o → (ok_or o (fault.BadLine n) >>= judged n) ≡ Ok x → Stands p x
stands_by p n words None x e h = cc
stands_by p n words (Some l) x e h =
    let t = fits_cases n l x (is_in_range l) (is_in_order l) refl refl h in
    form_stands p words x (e ∙ ap Some t.0) t.1 t.2

kept : (after : List (List ℕ)) (l x : CertLine) (b : Bool) → cond b (Err fault.Trailing) (Ok l) ≡ Ok x → l ≡ x
kept after l x true h = cc
kept after l x false h = cc

passed_on : (p : Place) (r : Result CertLine CertFault) (after : List (List ℕ)) (x : CertLine) → ((y : CertLine) → r ≡ Ok y → Stands p y) → (r >>= unless_trailing after) ≡ Ok x → Stands p x
passed_on p (Ok l) after x each h =
    let same = kept after l x (is_last l && has_bytes after) h in
    each x (ap Ok same)
passed_on p (Err f) after x each h = cc

pub next_stands : (p : Place) (n : ℕ) (ps : List (List ℕ)) (l : CertLine) → next_of p n ps ≡ Ok l → Stands p l
next_stands p n [] l h = cc
next_stands p n (text ∷ []) l h = cc
next_stands p n (text ∷ more ∷ after) l h =
    passed_on p (line_at p n text) (more ∷ after) l (λ y e. stands_by p n (pieces 32 text) (form p (pieces 32 text)) y refl e) h

pub stands_told : (p : Place) (n : ℕ) (ps : List (List ℕ)) (r : Result CertLine CertFault) → Tells (λ y. y) r (next_of p n ps) → IfOk r (Stands p)
stands_told p n ps (Ok l) h = next_stands p n ps l h
stands_told p n ps (Err f) h = tt
