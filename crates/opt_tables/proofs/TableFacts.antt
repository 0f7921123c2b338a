-- What is known of the records of any table that is read: each is made of the fields of one record, and no two have one key.
use Rattle.std.proofs.Common.{◌≡◌, ◌≤◌, ℕ, ◌+◌, ◌-◌, ◌<◌, ◌^◌, Bool, true, false, List, [], ◌∷◌, ◌++◌, length, get_or, Some, Result, Ok, refl, sym, ap, ◌∙◌, subst, arith}
use Rattle.std.specs.Prelude.{All, count_by, slice_get, bytes_eq}
use Rattle.std.specs.List.{list_any, AllPairs}
use Rattle.std.proofs.lemmas.Bool.{both_ways, false_from_ne_true}
use Rattle.std.proofs.lemmas.List.Folds.{list_any_at}
use Rattle.std.proofs.lemmas.List.Quantifiers.{all_pairs_push}
use Rattle.std.proofs.lemmas.Option.{slice_get-get_or}
use Rattle.std.proofs.lemmas.Slice.Eq.{bytes_eq-Decides}
use Rattle.opt_base.specs.Answers.{◌>>=◌}
use Rattle.opt_base.specs.declared.refusal.File.{File}
use Rattle.opt_base.specs.declared.refusal.Kind.TheVariants.{Duplicate}
use Rattle.opt_base.specs.declared.refusal.Refusal.{Refusal}
use Rattle.opt_base.proofs.Made.{bind_ok, unless_ok, each_keeps, each_adds, Added, Gained}
use Rattle.opt_tables.specs.Keys.{Known, Name, are_same}
use Rattle.opt_tables.specs.Records.{Record, row_of, refused_at, text_in}
use Rattle.opt_tables.specs.Lines.{Lines, no_lines, with_record, lines_of, lines_in, with_linked, records_of}
use Rattle.opt_tables.proofs.Cells.{IsCleanText, record_is, same_keys}
use Rattle.opt_tables.proofs.Counts.{one_passes}

-- values that are read alike are one
pub ok_same : {A E : Type 0} (x y : A) → ◌≡◌ {A = Result A E} (Ok x) (Ok y) → x ≡ y
ok_same x y e = cc

-- keys of which no two are the same
abbrev pub AreApart : List Known → Type 0
AreApart keys = AllPairs (λ earlier later. are_same later earlier ≡ false) keys

-- there are at most 2 ^ 24 records, and their fields are clean
pub record AreCleanRows (rows : List (List (List ℕ))) : Type 0 where
  pub few : length rows ≤ 2 ^ 24
  pub clean : (index place : ℕ) → IsCleanText (get_or (get_or rows index []) place [])

-- the same of a table that may be refused as it stands
abbrev pub AreClean : Result (List (List (List ℕ))) Refusal → Type 0
AreClean grid = (rows : List (List (List ℕ))) → grid ≡ Ok rows → AreCleanRows rows

apart_more : (keys : List Known) (key : Known) → list_any (are_same key) keys ≡ false → AreApart keys → AreApart (keys ++ key ∷ [])
apart_more keys key none apart =
    all_pairs_push (λ earlier later. are_same later earlier ≡ false) keys key apart
    (λ k d within. false_from_ne_true _ (λ same. both_ways (list_any (are_same key) keys) none (list_any_at (are_same key) keys k d within same)))

module _ {L : Type 0} (line_of : Record → Result L Refusal) (key_of : Record → L → Known) (file : File) where
  -- the record of this number and these fields
  abbrev pub numbered : ℕ → List (List ℕ) → Record
  numbered number fields = record { file = file; number = number; fields = fields }

  -- the line of a record
  abbrev pub IsLineOf : ℕ → List (List ℕ) → L → Type 0
  IsLineOf number fields line = line_of (numbered number fields) ≡ Ok line

  -- the key of a record
  pub record IsKeyOf (number : ℕ) (fields : List (List ℕ)) (key : Known) : Type 0 where
    pub line : L
    pub read : line_of (numbered number fields) ≡ Ok line
    pub is : key ≡ key_of (numbered number fields) line

  -- one more line and its key
  record NextLine (number : ℕ) (x : List (List ℕ)) (made more : Lines L) : Type 0 where
    file_kept : made.file ≡ more.file
    rows_kept : made.rows ≡ more.rows
    line : Added IsLineOf number made.lines more.lines x
    key : Added IsKeyOf number made.keys more.keys x
    apart : AreApart made.keys → AreApart more.keys

  next_line : (number : ℕ) (x : List (List ℕ)) (made more : Lines L) → with_record line_of key_of file number x made ≡ Ok more → NextLine number x made more
  next_line number x made more e =
      let row : Record = numbered number x in
      let line = bind_ok (line_of row) _ more e in
      let key : Known = key_of row line.0 in
      let next : Lines L = record { file = made.file; rows = made.rows; keys = made.keys ++ key ∷ []; lines = made.lines ++ line.0 ∷ [] } in
      let new = unless_ok (list_any (are_same key) made.keys) (Ok next) (refused_at row 0 Duplicate) more line.2 in
      let same : next ≡ more = cc (new.1) in
      record {
        file_kept = ap (λ (lines : Lines L). lines.file) same;
        rows_kept = ap (λ (lines : Lines L). lines.rows) same;
        line = record { one = line.0; joined = ap (λ (lines : Lines L). lines.lines) (sym same); at = line.1 };
        key = record { one = key; joined = ap (λ (lines : Lines L). lines.keys) (sym same); at = record { line = line.0; read = line.1; is = refl } };
        apart = λ apart. subst (λ (lines : Lines L). AreApart lines.keys) same (apart_more made.keys key new.0 apart);
      }

  -- the lines of a table: one, and a key, for each of its records
  pub record HasLines (rows : List (List (List ℕ))) (all : Lines L) : Type 0 where
    pub file_is : file ≡ all.file
    pub rows_are : rows ≡ all.rows
    pub lines : length all.lines ≡ length rows
    pub keys : length all.keys ≡ length rows
    pub line : (k : ℕ) (d : L) → k < length rows → IsLineOf (1 + k) (get_or rows k []) (get_or all.lines k d)
    pub key : (k : ℕ) (d : Known) → k < length rows → IsKeyOf (1 + k) (get_or rows k []) (get_or all.keys k d)
    pub apart : AreApart all.keys

  pub lines_are : (rows : List (List (List ℕ))) (all : Lines L) → lines_of line_of key_of file rows ≡ Ok all → HasLines rows all
  lines_are rows all e =
      let step : ℕ → List (List ℕ) → Lines L → Result (Lines L) Refusal = with_record line_of key_of file in
      let file_kept : file ≡ all.file = each_keeps step (λ made. file ≡ made.file) (λ number x made more f same. same ∙ (next_line number x made more f).file_kept) 1 (no_lines file rows) all rows e refl in
      let rows_kept : rows ≡ all.rows = each_keeps step (λ made. rows ≡ made.rows) (λ number x made more f same. same ∙ (next_line number x made more f).rows_kept) 1 (no_lines file rows) all rows e refl in
      let lines : Gained IsLineOf 1 [] all.lines rows = each_adds step (λ made. made.lines) IsLineOf (λ number x made more f. (next_line number x made more f).line) 1 (no_lines file rows) all rows e in
      let keys : Gained IsKeyOf 1 [] all.keys rows = each_adds step (λ made. made.keys) IsKeyOf (λ number x made more f. (next_line number x made more f).key) 1 (no_lines file rows) all rows e in
      record {
        file_is = file_kept;
        rows_are = rows_kept;
        lines = ap length lines.joined ∙ lines.long;
        keys = ap length keys.joined ∙ keys.long;
        line = λ k d within. subst (λ ls. IsLineOf (1 + k) (get_or rows k []) (get_or ls k d)) (sym lines.joined) (lines.at k [] d within);
        key = λ k d within. subst (λ ks. IsKeyOf (1 + k) (get_or rows k []) (get_or ks k d)) (sym keys.joined) (keys.at k [] d within);
        apart = each_keeps step (λ made. AreApart made.keys) (λ number x made more f apart. (next_line number x made more f).apart apart) 1 (no_lines file rows) all rows e
            (λ i j d before within. absurd (omega arith));
      }

  -- what a record of the model was made of
  pub record IsMade {R : Type 0} (record_of : Record → L → Result R Refusal) (all : Lines L) (k : ℕ) (key : Known) (r : R) : Type 0 where
    pub row : Record
    pub line : L
    pub clean : (column : ℕ) → IsCleanText (text_in row column)
    pub there : slice_get all.lines k ≡ Some line
    pub read : line_of row ≡ Ok line
    pub known : key ≡ key_of row line
    pub made : record_of row line ≡ Ok r

  -- the records of a table: one for each line, no two with one key
  pub record IsTable {R : Type 0} (record_of : Record → L → Result R Refusal) (all : Lines L) (records : List R) : Type 0 where
    pub many : length records ≡ length all.keys
    pub few : length records ≤ 2 ^ 24
    pub rows : length all.rows ≡ length records
    pub apart : AreApart all.keys
    pub at : (k : ℕ) (key : Known) (r : R) → k < length records → IsMade record_of all k (get_or all.keys k key) (get_or records k r)

  row_is : (rows : List (List (List ℕ))) (all : Lines L) (k : ℕ) → file ≡ all.file → rows ≡ all.rows → row_of all.file all.rows (1 + k) ≡ numbered (1 + k) (get_or rows k [])
  row_is rows all k same_file same_rows =
      ap (λ f. row_of f all.rows (1 + k)) (sym same_file) ∙ (ap (λ rs. row_of file rs (1 + k)) (sym same_rows) ∙ ap (numbered (1 + k)) (record_is rows k))

  module _ {R : Type 0} (record_of : Record → L → Result R Refusal) (all : Lines L) where
    -- the record of a line
    abbrev IsRecordOf : ℕ → L → R → Type 0
    IsRecordOf number line r = record_of (row_of all.file all.rows number) line ≡ Ok r

    more_records : (number : ℕ) (line : L) (made more : List R) → with_linked record_of all number line made ≡ Ok more → Added IsRecordOf number made more line
    more_records number line made more e =
        let one = bind_ok (record_of (row_of all.file all.rows number) line) _ more e in
        let same : made ++ one.0 ∷ [] ≡ more = cc (one.2) in
        record { one = one.0; joined = sym same; at = one.1 }

    pub records_are : (rows : List (List (List ℕ))) (records : List R) → AreCleanRows rows → HasLines rows all → records_of record_of all ≡ Ok records → IsTable record_of all records
    records_are rows records are has e =
        let gained : Gained IsRecordOf 1 [] records all.lines = each_adds (with_linked record_of all) (λ made. made) IsRecordOf more_records 1 [] records all.lines e in
        let many : length records ≡ length rows = ap length gained.joined ∙ (gained.long ∙ has.lines) in
        record {
          many = many ∙ sym has.keys;
          few = omega (arith, many, are.few);
          rows = ap length (sym has.rows_are) ∙ sym many;
          apart = has.apart;
          at = λ k key r within.
              let inside : k < length rows = omega (arith, many) in
              let lined : k < length all.lines = omega (arith, has.lines) in
              let known = has.key k key inside in
              let line : L = get_or all.lines k known.line in
              let read : line_of (numbered (1 + k) (get_or rows k [])) ≡ Ok line = has.line k known.line inside in
              let same : known.line ≡ line = (let both : Ok known.line ≡ Ok line = sym known.read ∙ read in cc) in
              let made : record_of (row_of all.file all.rows (1 + k)) line ≡ Ok (get_or records k r) =
              subst (λ (rs : List R). record_of (row_of all.file all.rows (1 + k)) line ≡ Ok (get_or rs k r)) (sym gained.joined) (gained.at k known.line r lined) in
              record {
                row = numbered (1 + k) (get_or rows k []);
                line = line;
                clean = λ column. are.clean k (column - 1);
                there = slice_get-get_or all.lines k known.line lined;
                read = read;
                known = known.is ∙ ap (key_of (numbered (1 + k) (get_or rows k []))) same;
                made = ap (λ row. record_of row line) (sym (row_is rows all k has.file_is has.rows_are)) ∙ made;
              };
        }

    -- the same of a table that may be refused as it stands
    pub table_is : (grid : Result (List (List (List ℕ))) Refusal) (records : List R) → AreClean grid → lines_in line_of key_of file grid ≡ Ok all → records_of record_of all ≡ Ok records → IsTable record_of all records
    table_is grid records clean e f =
        let rows = bind_ok grid (lines_of line_of key_of file) all e in
        records_are rows.0 records (clean rows.0 rows.1) (lines_are rows.0 all rows.2) f

    -- what the making of each record gives, holds of all
    pub all_made : (P : R → Type 0) (records : List R) → IsTable record_of all records → ((k : ℕ) (key : Known) (r : R) → IsMade record_of all k key r → P r) → All P records
    all_made P records is gives k d within = gives k (get_or all.keys k (Name [])) (get_or records k d) (is.at k (Name []) d within)

    -- where records that pass a test are known by the same, at most one passes
    pub one_known : (test : R → Bool) (records : List R) → IsTable record_of all records
        → ((i j : ℕ) (first second : Known) (r s : R) → IsMade record_of all i first r → IsMade record_of all j second s → test r ≡ true → test s ≡ true → first ≡ second)
        → count_by test records ≤ 1
    one_known test records is same =
        one_passes test records (λ i j d before within first second.
        let earlier : i < length records = omega arith in
        let a : Known = get_or all.keys i (Name []) in
        let b : Known = get_or all.keys j (Name []) in
        let one : a ≡ b = same i j a b (get_or records i d) (get_or records j d) (is.at i (Name []) d earlier) (is.at j (Name []) d within) first second in
        both_ways (are_same b a) (is.apart i j (Name []) before (omega (arith, is.many))) (same_keys a b one))

    -- records that are known by their names have different names
    pub names_once : (name_of : R → List ℕ) (records : List R) → IsTable record_of all records
        → ((k : ℕ) (key : Known) (r : R) → IsMade record_of all k key r → key ≡ Name (name_of r)) → (name : List ℕ) → count_by (λ r. bytes_eq (name_of r) name) records ≤ 1
    names_once name_of records is known name =
        one_known (λ r. bytes_eq (name_of r) name) records is (λ i j first second r s of_r of_s e f.
        let of_first : name_of r ≡ name = (bytes_eq-Decides (name_of r) name).0 e in
        let of_second : name_of s ≡ name = (bytes_eq-Decides (name_of s) name).0 f in
        known i first r of_r ∙ (ap Name (of_first ∙ sym of_second) ∙ sym (known j second s of_s)))
