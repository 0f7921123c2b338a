-- The one text of a certificate.
use Rattle.std.specs.Prelude.{ℕ, List, [], ◌∷◌, ◌++◌, map, length, Option, Some, None, ℤ, codes}
use Rattle.std.specs.List.{flat_map, join_with_byte}
use Rattle.std.specs.Fmt.{decimal, signed_decimal}
use Rattle.opt_base.specs.declared.verdict.Verdict.{Verdict}
use Rattle.opt_base.specs.declared.verdict.Verdict.TheVariants as verdict
use Rattle.opt_bound.specs.Multipliers.{Multipliers}
use Rattle.opt_tree.specs.declared.cert_node.CertNode.{CertNode}
use Rattle.opt_tree.specs.declared.cert_node.CertNode.TheVariants as node
use Rattle.opt_tree.specs.Trees.{preorder}
use Rattle.opt_tree.specs.Certificates.{Certificate}
use Rattle.opt_cert.specs.declared.cert_line.CertLine.{CertLine}
use Rattle.opt_cert.specs.declared.cert_line.CertLine.TheVariants as line

-- ---- the words of a line
-- an entry is its number and its value, parted by a colon
abbrev pub entry_text : ℕ × ℤ → List ℕ
entry_text e = decimal e.0 ++ 58 ∷ signed_decimal e.1

-- how many entries there are, and then the entries
abbrev pub entries_words : List (ℕ × ℤ) → List (List ℕ)
entries_words entries = decimal (length entries) ∷ map entry_text entries

abbrev pub multipliers_words : Multipliers → List (List ℕ)
multipliers_words m = signed_decimal m.q ∷ entries_words m.entries

-- the best known objective, or that there is none
abbrev pub best_word : Option ℤ → List ℕ
best_word None = codes "none"
best_word (Some best) = signed_decimal best

abbrev pub verdict_words : Verdict → List (List ℕ)
verdict_words (verdict.Plan objective bound) = codes "plan" ∷ signed_decimal objective ∷ signed_decimal bound ∷ []
verdict_words verdict.NoPlan = codes "no-plan" ∷ []
verdict_words (verdict.Unfinished bound best) = codes "unfinished" ∷ signed_decimal bound ∷ best_word best ∷ []

abbrev pub point_words : Option (List (ℕ × ℤ)) → List (List ℕ)
point_words None = codes "none" ∷ []
point_words (Some entries) = entries_words entries

abbrev pub words_of : CertLine → List (List ℕ)
words_of line.Header = codes "optimus-certificate" ∷ codes "1" ∷ []
words_of (line.Verdict v) = verdict_words v
words_of (line.Root m) = codes "root" ∷ multipliers_words m
words_of (line.Point entries) = codes "point" ∷ point_words entries
words_of (line.Split j t) = codes "split" ∷ decimal j ∷ signed_decimal t ∷ []
words_of (line.Leaf m) = codes "leaf" ∷ multipliers_words m
words_of line.End = codes "end" ∷ []

-- ---- lines
-- the words, parted by one space
abbrev pub line_text : CertLine → List ℕ
line_text l = join_with_byte 32 (words_of l)

-- the verdict's line, without its line feed
abbrev pub verdict_text : Verdict → List ℕ
verdict_text v = line_text (line.Verdict v)

abbrev pub node_line : CertNode → CertLine
node_line (node.Split j t) = line.Split j t
node_line (node.Leaf m) = line.Leaf m

-- the lines of a certificate: its nodes in order, each split before its left tree and that before its right tree
abbrev pub lines_of : Certificate → List CertLine
lines_of c =
    line.Header ∷ line.Verdict c.verdict ∷ line.Root c.root ∷ line.Point c.point ∷ map node_line (preorder c.tree) ++ line.End ∷ []

-- each line with its line feed
abbrev pub text_of_lines : List CertLine → List ℕ
text_of_lines lines = flat_map (λ l. line_text l ++ 10 ∷ []) lines

abbrev pub certificate_text : Certificate → List ℕ
certificate_text c = text_of_lines (lines_of c)
