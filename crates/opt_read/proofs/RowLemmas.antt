-- The records that a reader has still to give.
use Rattle.std.proofs.Common.{◌≡◌, ◌<◌, ◌+◌, ℕ, zero, suc, true, false, List, [], ◌∷◌, length, Option, Some, None, refl, ap, sym, subst, ◌∙◌, arith, add-one, inl}
use Rattle.std.specs.Borrow.{Bor}
use Rattle.std.specs.Prelude.{All}
use Rattle.csv.specs.Machine.{Read, ends_at_end, next_record}
use Rattle.csv.specs.Reading.{ReadRecord, Reached, default_config, is_flexible, records_from, records_next, took_first}
use Rattle.csv.specs.Records.{AllText}
use Rattle.csv.specs.declared.parser.State.{State}
use Rattle.csv.specs.declared.reader.Reader.{Reader}
use Rattle.csv.proofs.ReadFacts.{rows-end, rows-more}
use Rattle.opt_read.specs.Rows.{IsBetween, NextRecord, records_left, unread}
use Rattle.opt_read.proofs.RecordLemmas.{next-between, next-shorter}
use Rattle.opt_read.proofs.TextLemmas.{All-rest}

-- how many records are asked for does not matter once they are more than the bytes
enough : (n m : ℕ) (s : State) (xs : List ℕ) → ends_at_end s ≡ false → length xs < n → length xs < m → records_from default_config n s xs ≡ records_from default_config m s xs
unfolding records_from
enough zero m s xs between h k = absurd (omega arith)
enough (suc n) zero s xs between h k = absurd (omega arith)
enough (suc n) (suc m) s xs between h k = one (next_record default_config s [] [] xs) refl (λ t ys b i j. enough n m t ys b i j)
  where
    one : (next : Option Read) → next_record default_config s [] [] xs ≡ next
        → ((t : State) (ys : List ℕ) → ends_at_end t ≡ false → length ys < n → length ys < m → records_from default_config n t ys ≡ records_from default_config m t ys)
        → records_next (records_from default_config n) next ≡ records_next (records_from default_config m) next
    one None e more = refl
    one (Some p) e more =
        let shorter = next-shorter default_config s [] [] xs p between e in
        ap (λ rest. p.0 ∷ rest) (more p.1 p.2 (next-between s [] [] xs p e) (omega arith) (omega arith))

-- the records from a state, by the next of them
from-none : (s : State) (xs : List ℕ) → next_record default_config s [] [] xs ≡ None → records_from default_config (length xs + 1) s xs ≡ []
unfolding records_from
from-none s xs e = rw (add-one, e)

from-some : (s : State) (xs : List ℕ) (p : Read) → ends_at_end s ≡ false → next_record default_config s [] [] xs ≡ Some p
    → records_from default_config (length xs + 1) s xs ≡ p.0 ∷ records_from default_config (length p.2 + 1) p.1 p.2
unfolding records_from
from-some s xs p between e =
    let shorter = next-shorter default_config s [] [] xs p between e in
    rw (add-one, e) (ap (λ rest. p.0 ∷ rest) (enough (length xs) (length p.2 + 1) p.1 p.2 (next-between s [] [] xs p e) (omega arith) (omega arith)))

-- the one record that takes a reader from here to there
reached-one : (s t : State) (xs ys : List ℕ) (fields : List (List ℕ)) → Reached default_config s xs (fields ∷ []) t ys → next_record default_config s [] [] xs ≡ Some (fields, t, ys)
unfolding Reached
reached-one s t xs ys fields r = rw (r.2, ← r.3.0, ← r.3.1) r.1

-- a read that finds a record
pub record Found (old new : Reader (Bor (List ℕ))) (fields : List (List ℕ)) : Type 0 where
  pub next : NextRecord true (records_left old.state (unread old)) fields (records_left new.state (unread new))
  pub stays : IsBetween new

reached-none : (s : State) (xs : List ℕ) → Reached default_config s xs [] s xs
unfolding Reached
reached-none s xs = (refl, refl)

pub found-next : (old new : Reader (Bor (List ℕ))) (fields : List (List ℕ)) → IsBetween old → ReadRecord (λ bytes. Some bytes.now) old new true fields
    → took_first new ≡ true → is_flexible new ≡ is_flexible old → Found old new fields
found-next old new fields is read first flexible =
    let more = rows-more (λ bytes. Some bytes.now) old new fields default_config old.state is.bytes is.bytes [] is.config is.bytes_are (reached-none old.state is.bytes) read in
    let next = reached-one old.state new.state is.bytes more.0 fields more.2 in
    let whole = from-some old.state is.bytes (fields, new.state, more.0) is.between next in
    let all : All AllText (fields ∷ records_from default_config (length more.0 + 1) new.state more.0) = subst (λ (rows : List (List (List ℕ))). All AllText rows) whole is.text in
    record {
      next = (ap (records_left old.state) is.bytes_are ∙ (whole ∙ sym (ap (λ bytes. fields ∷ records_left new.state bytes) more.1)), all 0 fields (omega arith));
      stays = record {
        bytes = more.0;
        bytes_are = more.1;
        plain = read.3 ∙ is.plain;
        ready = inl first;
        config = read.2 ∙ is.config;
        flexible = flexible ∙ is.flexible;
        between = next-between old.state [] [] is.bytes (fields, new.state, more.0) next;
        text = All-rest AllText _ fields _ whole is.text;
      };
    }

-- a read that finds none
pub found-none : (old new : Reader (Bor (List ℕ))) (fields : List (List ℕ)) → IsBetween old → ReadRecord (λ bytes. Some bytes.now) old new false fields
    → records_left old.state (unread old) ≡ []
found-none old new fields is read =
    ap (records_left old.state) is.bytes_are ∙ from-none old.state is.bytes (rows-end (λ bytes. Some bytes.now) old new fields default_config is.bytes is.config is.bytes_are read)
