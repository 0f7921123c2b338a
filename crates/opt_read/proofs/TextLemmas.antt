-- The fields of a text are text, stripped or not.
use Rattle.std.proofs.Common.{◌≡◌, ◌<◌, ◌≤◌, ◌-◌, ◌==◌, ℕ, zero, suc, Bool, true, false, List, [], ◌∷◌, ◌++◌, map, length, reverse, get_or, slice_index_or, Option, Some, None, IsUtf8, refl, ap, sym, subst, ◌∙◌, arith, inl, inr, append_assoc, append-nil}
use Rattle.std.proofs.lemmas.Bool.{and_parts, cases_Bool, cases_lt, eqb-true}
use Rattle.std.proofs.lemmas.Bool.Decides.{nat_tests}
use Rattle.std.proofs.lemmas.List.{get_or-reverse, length-reverse}
use Rattle.std.proofs.lemmas.List.Sums.{prefix_len-le-length, prefix_len_passes}
use Rattle.std.proofs.lemmas.Str.{IsCharBoundary-after_ascii, IsCharBoundary-before_ascii, IsCharBoundary-end, IsUtf8-append, IsUtf8-drop, IsUtf8-encode, IsUtf8-nil, IsUtf8-past_char, IsUtf8-take, encode_ascii, inside_one, len_utf8_bounds, length-encode}
use Rattle.std.specs.List.{suffix_len}
use Rattle.std.specs.Str.{IsCharBoundary}
use Rattle.std.specs.Prelude.{All, if◌then◌else◌, ◌⊎◌, ◌&&◌}
use lib.Utf8.{scalar, scalars, encode, encodes, low_scalar}
use Rattle.csv.specs.Machine.{Read, ends_at_end, ends_with, field_after, fields_after, in_field, is_end, next_record, start_field, start_record, step}
use Rattle.csv.specs.Reading.{default_config, is_bom, records_from, records_next, strip_bom}
use Rattle.csv.specs.Records.{AllText}
use Rattle.csv.specs.declared.parser.Action.{Action}
use Rattle.csv.specs.declared.parser.Action.TheVariants as act
use Rattle.csv.specs.declared.parser.State.{State}
use Rattle.csv.specs.declared.parser.State.TheVariants as st
use Rattle.csv.specs.declared.parser.Terminator.TheVariants as term
use Rattle.opt_read.specs.Grid.{is_blank, without_blanks, without_back, without_front}
use Rattle.opt_read.proofs.StripLemmas.{front-more, front-stops}

-- a blank is ASCII
blank-ascii : (byte : ℕ) → is_blank byte ≡ true → byte < 128
blank-ascii byte e = grind (arith, nat_tests)

rest-text : (byte : ℕ) (rest : List ℕ) → IsUtf8 (byte ∷ rest) → byte < 128 → IsUtf8 rest
rest-text byte rest u small = IsUtf8-drop (byte ∷ rest) 1 u (IsCharBoundary-after_ascii (byte ∷ rest) 0 u (omega arith) small)

front-text : (field : List ℕ) → IsUtf8 field → IsUtf8 (without_front field)
front-text [] u = u
front-text (byte ∷ rest) u = elim (cases_Bool (is_blank byte)) [
  | inl blank ↦ subst IsUtf8 (sym (front-more byte rest blank)) (front-text rest (rest-text byte rest u (blank-ascii byte blank)))
  | inr other ↦ subst IsUtf8 (sym (front-stops byte rest other)) u
]

back-boundary : (field : List ℕ) (blanks : ℕ) → suffix_len is_blank field ≡ blanks → IsCharBoundary field (length field - blanks)
back-boundary field zero e =
    let all : length field ≡ length field - 0 = omega arith in
    subst (λ (n : ℕ). IsCharBoundary field n) all (IsCharBoundary-end field)
back-boundary field (suc k) e =
    let few = prefix_len-le-length is_blank (reverse field) in
    let size = length-reverse field in
    let at : get_or (reverse field) k 0 ≡ get_or field (length field - suc k) 0 = get_or-reverse field k 0 (omega arith) ∙ ap (λ n. get_or field n 0) (omega arith) in
    let blank = prefix_len_passes is_blank (reverse field) k 0 (omega arith) in
    IsCharBoundary-before_ascii field (length field - suc k) (omega arith) (omega (arith, at, blank-ascii (get_or (reverse field) k 0) blank))

back-text : (field : List ℕ) → IsUtf8 field → IsUtf8 (without_back field)
back-text field u = IsUtf8-take field (length field - suffix_len is_blank field) u (back-boundary field (suffix_len is_blank field) refl)

pub without_blanks-text : (field : List ℕ) → IsUtf8 field → IsUtf8 (without_blanks field)
without_blanks-text field u = back-text (without_front field) (front-text field u)

-- what holds of the empty field and of each stripped field of text, holds of a stripped field of a record of text, also where there
-- is none
pub field-holds : (P : List ℕ → Type 0) → P [] → ((field : List ℕ) → IsUtf8 field → P (without_blanks field))
    → (fields : List (List ℕ)) (column : ℕ) → AllText fields → P (slice_index_or (map without_blanks fields) column [])
unfolding AllText
field-holds P none one [] column t = none
field-holds P none one (f ∷ fields) zero t = one f t.0
field-holds P none one (f ∷ fields) (suc column) t = field-holds P none one fields column t.1

-- such a field is text
pub field-text : (fields : List (List ℕ)) (column : ℕ) → AllText fields → IsUtf8 (slice_index_or (map without_blanks fields) column [])
field-text = field-holds IsUtf8 IsUtf8-nil without_blanks-text

AllText-append : (fields : List (List ℕ)) (field : List ℕ) → AllText fields → IsUtf8 field → AllText (fields ++ field ∷ [])
unfolding AllText
AllText-append [] field t u = (u, tt)
AllText-append (f ∷ fields) field t u = (t.0, AllText-append fields field t.1 u)

-- what a byte of a longer character does: the state after it, and whether it joins the field
inside : State → State
inside st.StartRecord = st.InField
inside st.StartField = st.InField
inside st.InField = st.InField
inside st.InQuoted = st.InQuoted
inside st.InEscape = st.InQuoted
inside st.AfterQuote = st.InField
inside st.InComment = st.InComment
inside st.AfterCr = st.InField

how : State → Action
how st.StartRecord = act.Copy
how st.StartField = act.Copy
how st.InField = act.Copy
how st.InQuoted = act.Copy
how st.InEscape = act.Copy
how st.AfterQuote = act.Copy
how st.InComment = act.Skip
how st.AfterCr = act.Copy

above : (byte k : ℕ) → 128 ≤ byte → k < 128 → (byte == k) ≡ false
above byte k high low = grind (arith, nat_tests)

no_then : (test : Bool) (a b next : State × Action) → test ≡ false → b ≡ next → (if test then a else b) ≡ next
no_then test a b next e same = rw e same

field-high : (byte : ℕ) → 128 ≤ byte → in_field default_config byte ≡ (st.InField, act.Copy)
field-high byte high = rw (above byte 44 high (omega arith), above byte 13 high (omega arith), above byte 10 high (omega arith))

start_field-high : (byte : ℕ) → 128 ≤ byte → start_field default_config byte ≡ (st.InField, act.Copy)
start_field-high byte high = rw (above byte 34 high (omega arith)) (field-high byte high)

start_record-high : (byte : ℕ) → 128 ≤ byte → start_record default_config byte ≡ (st.InField, act.Copy)
start_record-high byte high =
    let ends : ends_with term.CRLF byte ≡ false = rw (above byte 13 high (omega arith), above byte 10 high (omega arith)) in
    no_then (ends_with term.CRLF byte) _ _ _ ends (start_field-high byte high)

step-high : (s : State) (byte : ℕ) → 128 ≤ byte → step default_config s byte ≡ (inside s, how s)
unfolding inside how
step-high st.StartRecord byte high = start_record-high byte high
step-high st.StartField byte high = start_field-high byte high
step-high st.InField byte high = field-high byte high
step-high st.InQuoted byte high = rw (above byte 34 high (omega arith))
step-high st.InEscape byte high = refl
step-high st.AfterQuote byte high = rw (above byte 34 high (omega arith)) (field-high byte high)
step-high st.InComment byte high = rw (above byte 10 high (omega arith))
step-high st.AfterCr byte high = no_then (byte == 10) _ _ _ (above byte 10 high (omega arith)) (start_record-high byte high)

inside-stays : (s : State) → (inside (inside s) ≡ inside s) × (how (inside s) ≡ how s)
unfolding inside how
inside-stays st.StartRecord = (refl, refl)
inside-stays st.StartField = (refl, refl)
inside-stays st.InField = (refl, refl)
inside-stays st.InQuoted = (refl, refl)
inside-stays st.InEscape = (refl, refl)
inside-stays st.AfterQuote = (refl, refl)
inside-stays st.InComment = (refl, refl)
inside-stays st.AfterCr = (refl, refl)

-- the field after bytes of longer characters
grown : Action → List ℕ → List ℕ → List ℕ
grown act.Copy field bytes = field ++ bytes
grown act.Skip field bytes = field
grown act.EndField field bytes = field
grown act.EndRecord field bytes = field

grown-more : (a : Action) (byte : ℕ) (field bytes : List ℕ) → (a ≡ act.Copy) ⊎ (a ≡ act.Skip) → grown a (field_after a byte field) bytes ≡ grown a field (byte ∷ bytes)
unfolding grown
grown-more act.Copy byte field bytes h = append_assoc field (byte ∷ []) bytes
grown-more act.Skip byte field bytes h = refl
grown-more act.EndField byte field bytes (inl h) = cc
grown-more act.EndField byte field bytes (inr h) = cc
grown-more act.EndRecord byte field bytes (inl h) = cc
grown-more act.EndRecord byte field bytes (inr h) = cc

how-plain : (s : State) → (how s ≡ act.Copy) ⊎ (how s ≡ act.Skip)
unfolding how
how-plain st.StartRecord = inl refl
how-plain st.StartField = inl refl
how-plain st.InField = inl refl
how-plain st.InQuoted = inl refl
how-plain st.InEscape = inl refl
how-plain st.AfterQuote = inl refl
how-plain st.InComment = inr refl
how-plain st.AfterCr = inl refl

goes-on : (a : Action) (fields : List (List ℕ)) (field : List ℕ) → (a ≡ act.Copy) ⊎ (a ≡ act.Skip) → (is_end a ≡ false) × (fields_after a fields field ≡ fields)
goes-on act.Copy fields field h = (refl, refl)
goes-on act.Skip fields field h = (refl, refl)
goes-on act.EndField fields field (inl h) = cc
goes-on act.EndField fields field (inr h) = cc
goes-on act.EndRecord fields field (inl h) = cc
goes-on act.EndRecord fields field (inr h) = cc

-- one byte of a longer character
next-high : (s : State) (fields : List (List ℕ)) (field rest : List ℕ) (byte : ℕ) → 128 ≤ byte
    → next_record default_config s fields field (byte ∷ rest) ≡ next_record default_config (inside s) fields (field_after (how s) byte field) rest
unfolding next_record
next-high s fields field rest byte high =
    let goes = goes-on (how s) fields field (how-plain s) in
    rw (step-high s byte high, goes.0, goes.1)

grown-one : (a : Action) (byte : ℕ) (field : List ℕ) → (a ≡ act.Copy) ⊎ (a ≡ act.Skip) → field_after a byte field ≡ grown a field (byte ∷ [])
unfolding grown
grown-one act.Copy byte field h = refl
grown-one act.Skip byte field h = refl
grown-one act.EndField byte field (inl h) = cc
grown-one act.EndField byte field (inr h) = cc
grown-one act.EndRecord byte field (inl h) = cc
grown-one act.EndRecord byte field (inr h) = cc

grown-text : (a : Action) (field bytes : List ℕ) → IsUtf8 field → IsUtf8 bytes → IsUtf8 (grown a field bytes)
unfolding grown
grown-text act.Copy field bytes u v = IsUtf8-append field bytes u v
grown-text act.Skip field bytes u v = u
grown-text act.EndField field bytes u v = u
grown-text act.EndRecord field bytes u v = u

-- a whole one
next-run : (s : State) (fields : List (List ℕ)) (field rest : List ℕ) (byte : ℕ) (bytes : List ℕ) → 128 ≤ byte → ((k : ℕ) → k < length bytes → 128 ≤ get_or bytes k 0)
    → next_record default_config s fields field (byte ∷ (bytes ++ rest)) ≡ next_record default_config (inside s) fields (grown (how s) field (byte ∷ bytes)) rest
next-run s fields field rest byte [] high more =
    next-high s fields field rest byte high ∙ ap (λ (f : List ℕ). next_record default_config (inside s) fields f rest) (grown-one (how s) byte field (how-plain s))
next-run s fields field rest byte (b ∷ bytes) high more =
    let stays = inside-stays s in
    next-high s fields field (b ∷ (bytes ++ rest)) byte high
    ∙ (next-run (inside s) fields (field_after (how s) byte field) rest b bytes (more 0 (omega arith)) (λ k within. more (suc k) (omega arith))
    ∙ rw (stays.0, stays.1) (ap (λ (f : List ℕ). next_record default_config (inside s) fields f rest) (grown-more (how s) byte field (b ∷ bytes) (how-plain s))))

-- the bytes of a longer character
high-bytes : (c : ℕ) → 128 ≤ c → (k : ℕ) → k < length (encode c) → 128 ≤ get_or (encode c) k 0
high-bytes c big k within = elim (cases_lt (get_or (encode c) k 0) 128) [
  | inl low ↦ absurd (omega (arith, inside_one c [] (encode c) k (sym (append-nil _)) within low))
  | inr high ↦ high
]

-- what reading a record is to show
abbrev Shows : Option Read → Type 0
Shows next = (p : Read) → next ≡ Some p → AllText p.0 × IsUtf8 p.2

fields_after-text : (a : Action) (fields : List (List ℕ)) (field : List ℕ) → AllText fields → IsUtf8 field → AllText (fields_after a fields field)
fields_after-text act.Copy fields field texts text = texts
fields_after-text act.Skip fields field texts text = texts
fields_after-text act.EndField fields field texts text = AllText-append fields field texts text
fields_after-text act.EndRecord fields field texts text = AllText-append fields field texts text

field_after-text : (a : Action) (c : ℕ) (field : List ℕ) → c < 128 → IsUtf8 field → IsUtf8 (field_after a c field)
field_after-text act.Copy c field small text = IsUtf8-append field (c ∷ []) text (subst IsUtf8 (encode_ascii c small) (IsUtf8-encode c (low_scalar c (omega arith))))
field_after-text act.Skip c field small text = text
field_after-text act.EndField c field small text = IsUtf8-nil
field_after-text act.EndRecord c field small text = IsUtf8-nil

same : (a p : Read) → Some a ≡ Some p → a ≡ p
same a p e = cc

shows-ascii : (s : State) (fields : List (List ℕ)) (field rest : List ℕ) (c : ℕ) → c < 128 → AllText fields → IsUtf8 field → IsUtf8 rest
    → ((s2 : State) (fields2 : List (List ℕ)) (field2 : List ℕ) → AllText fields2 → IsUtf8 field2 → Shows (next_record default_config s2 fields2 field2 rest))
    → Shows (next_record default_config s fields field (c ∷ rest))
unfolding next_record
shows-ascii s fields field rest c small texts text u more p e =
    let a = (step default_config s c).1 in
    let grown_fields = fields_after-text a fields field texts text in
    elim (cases_Bool (is_end (step default_config s c).1)) [
      | inl ends ↦ rw (← same _ p (rw ends at e)) (grown_fields, u)
      | inr goes ↦ more (step default_config s c).0 (fields_after a fields field) (field_after a c field) grown_fields (field_after-text a c field small text) p (rw goes at e)
    ]

shows-long : (s : State) (fields : List (List ℕ)) (field rest xs : List ℕ) (c : ℕ) → encode c ≡ xs → scalar c ≡ true → 128 ≤ c → IsUtf8 field
    → ((s2 : State) (field2 : List ℕ) → IsUtf8 field2 → Shows (next_record default_config s2 fields field2 rest))
    → Shows (next_record default_config s fields field (xs ++ rest))
shows-long s fields field rest [] c e valid big text more p f = absurd (omega (arith, ap length e, length-encode c, (len_utf8_bounds c).0))
shows-long s fields field rest (byte ∷ bytes) c e valid big text more p f =
    let high : (k : ℕ) → k < length (byte ∷ bytes) → 128 ≤ get_or (byte ∷ bytes) k 0 = subst (λ (xs : List ℕ). (k : ℕ) → k < length xs → 128 ≤ get_or xs k 0) e (high-bytes c big) in
    let run = next-run s fields field rest byte bytes (high 0 (omega arith)) (λ k within. high (suc k) (omega arith)) in
    more (inside s) (grown (how s) field (byte ∷ bytes)) (grown-text (how s) field (byte ∷ bytes) text (subst IsUtf8 e (IsUtf8-encode c valid))) p (sym run ∙ f)

shows-text : (cs : List ℕ) (s : State) (fields : List (List ℕ)) (field : List ℕ) → scalars cs ≡ true → AllText fields → IsUtf8 field → Shows (next_record default_config s fields field (encodes cs))
unfolding next_record
shows-text [] s fields field valid texts text = λ p e. elim (cases_Bool (ends_at_end s)) [
  | inl ends ↦ rw (← same _ p (rw ends at e)) (AllText-append fields field texts text, IsUtf8-nil)
  | inr stays ↦ cc (rw stays at e)
]
shows-text (c ∷ cs) s fields field valid texts text =
    let v = and_parts (scalar c) (scalars cs) valid in
    elim (cases_lt c 128) [
      | inl small ↦ subst (λ (xs : List ℕ). Shows (next_record default_config s fields field (xs ++ encodes cs))) (sym (encode_ascii c small))
          (shows-ascii s fields field (encodes cs) c small texts text (cs, (v.1, refl)) (λ s2 fields2 field2 texts2 text2. shows-text cs s2 fields2 field2 v.1 texts2 text2))
      | inr big ↦ shows-long s fields field (encodes cs) (encode c) c refl v.0 big text (λ s2 field2 text2. shows-text cs s2 fields field2 v.1 texts text2)
    ]

-- every record of a text
All-more : {A : Type 0} (P : A → Type 0) (x : A) (xs : List A) → P x → All P xs → All P (x ∷ xs)
All-more P x xs here later zero d within = here
All-more P x xs here later (suc k) d within = later k d (omega arith)

pub All-rest : {A : Type 0} (P : A → Type 0) (all : List A) (x : A) (rest : List A) → all ≡ x ∷ rest → All P all → All P rest
All-rest P all x rest parts holds k d within = (rw parts at holds) (suc k) d (omega arith)

pub records-text : (n : ℕ) (s : State) (text : List ℕ) → IsUtf8 text → All AllText (records_from default_config n s text)
unfolding records_from AllText
records-text zero s text u = λ k d within. absurd (omega arith)
records-text (suc n) s text u = by (next_record default_config s [] [] text) shows (λ t ys v. records-text n t ys v)
  where
    shows : Shows (next_record default_config s [] [] text)
    shows = subst (λ (xs : List ℕ). Shows (next_record default_config s [] [] xs)) u.1.1 (shows-text u.0 s [] [] u.1.0 tt IsUtf8-nil)

    by : (next : Option Read) → Shows next → ((t : State) (ys : List ℕ) → IsUtf8 ys → All AllText (records_from default_config n t ys)) → All AllText (records_next (records_from default_config n) next)
    by None h more = λ k d within. absurd (omega arith)
    by (Some p) h more = All-more AllText p.0 (records_from default_config n p.1 p.2) (h p refl).0 (more p.1 p.2 (h p refl).1)

-- a byte order mark is one character
after_mark : (a b c : ℕ) (rest : List ℕ) → is_bom a b c ≡ true → IsUtf8 (a ∷ b ∷ c ∷ rest) → IsUtf8 rest
unfolding encode
after_mark a b c rest mark u =
    let ab = and_parts ((a == 0xEF) && (b == 0xBB)) (c == 0xBF) mark in
    let both = and_parts (a == 0xEF) (b == 0xBB) ab.0 in
    let spelled : a ∷ b ∷ c ∷ rest ≡ encode 0xFEFF ++ rest = rw (eqb-true a 0xEF both.0, eqb-true b 0xBB both.1, eqb-true c 0xBF ab.1) in
    IsUtf8-past_char (a ∷ b ∷ c ∷ rest) rest 0xFEFF u spelled

pub strip_bom-text : (text : List ℕ) → IsUtf8 text → IsUtf8 (strip_bom text)
unfolding strip_bom
strip_bom-text [] u = u
strip_bom-text (a ∷ []) u = u
strip_bom-text (a ∷ b ∷ []) u = u
strip_bom-text (a ∷ b ∷ c ∷ rest) u = elim (cases_Bool (is_bom a b c)) [
  | inl mark ↦ rw mark (after_mark a b c rest mark u)
  | inr other ↦ rw other u
]
