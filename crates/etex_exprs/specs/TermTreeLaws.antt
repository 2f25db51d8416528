-- What is read of a list is written with its words, and every tree is read as itself.
use Rattle.std.specs.Prelude.{◌≡◌, ⊤, Bool, true, false, List, [], ◌∷◌, ◌++◌}
use Rattle.scan_nums.specs.Taken.{Taken, Seen, Told, Resumed}
use Rattle.etex_exprs.specs.declared.mark.Mark.{Mark}
use Rattle.etex_exprs.specs.declared.mark.Mark.TheVariants.{Blank, Open, Close, Operator, Relax, Other}
use Rattle.etex_exprs.specs.declared.sort.Sort.{Sort}
use Rattle.etex_exprs.specs.TermTreeMarks.{mark_of}
use Rattle.scan_nums.specs.declared.number.Number.{Number}
use Rattle.scan_nums.specs.Number.{is_of_phrase}
use Rattle.etex_exprs.specs.declared.sort.Sort.TheVariants.{Whole}
use Rattle.etex_exprs.specs.TermTreeParts.{phrase_of, is_mixed}
use Rattle.etex_exprs.specs.TermTree.{Word, Said, Value, Sum, alone, plus, minus, Term, single, times, over, Factor, operand, enclosed, sum_words}
use Rattle.etex_exprs.specs.TermTreeReading.{Reading, before, begun, behind, end, unclosed, mixed, nothing, Front, no_sum, added, subtracted, Product, no_term, multiplied, divided, fresh, read, reading, reading_words}

-- the words of a token: none of a blank
abbrev pub mark_words : Mark → List Word
mark_words Blank = []
mark_words Open = Said Open ∷ []
mark_words Close = Said Close ∷ []
mark_words (Operator o) = Said (Operator o) ∷ []
mark_words Relax = Said Relax ∷ []
mark_words Other = Said Other ∷ []

abbrev pub taken_words : Taken → List Word
taken_words (Seen t m) = mark_words (mark_of t m)
taken_words (Told n) = Value n ∷ []
taken_words Resumed = []

abbrev pub all_words : List Taken → List Word
all_words [] = []
all_words (x ∷ more) = taken_words x ++ all_words more

-- something was read
abbrev pub IsRead : Reading → Type 0
IsRead (before u us) = ⊤
IsRead (begun u us m) = ⊤
IsRead (behind u us f) = ⊤
IsRead (end sort s m) = ⊤
IsRead (unclosed u o us f m) = ⊤
IsRead (mixed u us m n) = ⊤
IsRead nothing = ⊥

-- what was read is written with the words that were taken, none left out but blanks
abbrev pub WordsAreRead : Type 0
WordsAreRead = (sort : Sort) (taken : List Taken) → IsRead (reading sort taken) → reading_words (reading sort taken) ≡ all_words taken

-- ---- every tree is read as itself

-- an operand begins with no blank and no parenthesis
abbrev pub IsStart : Mark → Type 0
IsStart Blank = ⊥
IsStart Open = ⊥
IsStart Close = ⊤
IsStart (Operator o) = ⊤
IsStart Relax = ⊤
IsStart Other = ⊤

-- an operand's value is of the kind that is wanted at its place
abbrev pub IsOperand : Sort → Mark → Number → Type 0
IsOperand sort m n = IsStart m × (is_of_phrase (phrase_of sort) n ≡ true) × (is_mixed (phrase_of sort) n ≡ false)

-- all operands of a tree are, at its sort
abbrev mutual
  pub SumIs : Sum → Sort → Type 0
  SumIs (alone t) sort = TermIs t sort
  SumIs (plus s t) sort = SumIs s sort × TermIs t sort
  SumIs (minus s t) sort = SumIs s sort × TermIs t sort

  pub TermIs : Term → Sort → Type 0
  TermIs (single f) sort = FactorIs f sort
  TermIs (times t f) sort = TermIs t sort × FactorIs f Whole
  TermIs (over t f) sort = TermIs t sort × FactorIs f Whole

  pub FactorIs : Factor → Sort → Type 0
  FactorIs (operand m n) sort = IsOperand sort m n
  FactorIs (enclosed s) sort = SumIs s sort

-- what was read behind these words
abbrev pub read_words : Reading → List Word → Reading
read_words r [] = r
read_words r (w ∷ ws) = read_words (read r w) ws

-- a tree's last term and factor, and what stands in front of them
abbrev pub last_factor : Term → Factor
last_factor (single f) = f
last_factor (times t f) = f
last_factor (over t f) = f

abbrev pub product_before : Term → Product
product_before (single f) = no_term
product_before (times t f) = multiplied t
product_before (over t f) = divided t

abbrev pub last_term : Sum → Term
last_term (alone t) = t
last_term (plus s t) = t
last_term (minus s t) = t

abbrev pub front_before : Sum → Front
front_before (alone t) = no_sum
front_before (plus s t) = added s
front_before (minus s t) = subtracted s

-- the tokens that end an expression
abbrev pub IsEnd : Mark → Type 0
IsEnd Blank = ⊥
IsEnd (Operator o) = ⊥
IsEnd Open = ⊤
IsEnd Close = ⊤
IsEnd Relax = ⊤
IsEnd Other = ⊤

-- with a token behind it that ends it, a tree of the right operands is read as this tree and no other
abbrev pub TreesAreRead : Type 0
TreesAreRead = (sort : Sort) (s : Sum) (m : Mark) → SumIs s sort → IsEnd m → read_words (before (fresh sort) []) (sum_words s ++ Said m ∷ []) ≡ end sort s m
