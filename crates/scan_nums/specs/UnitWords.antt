-- The keywords of units of measure (The TeXbook, chapter 24: unit of measure, fil unit; tex.web 454 to 458).
use Rattle.std.specs.Prelude.{◌≡◌, ℕ, Bool, true, false, List, [], ◌∷◌, codes}
use Rattle.scan_nums.specs.declared.unit.PhysicalUnit.TheVariants.{Point, Inch, Pica, Centimeter, Millimeter, BigPoint, DidotPoint, Cicero, ScaledPoint}
use Rattle.scan_nums.specs.declared.keyword.UnitName.{UnitName}
use Rattle.scan_nums.specs.declared.keyword.UnitName.TheVariants.{Em, Ex, True, Fil, Mu, Physical}
use Rattle.scan_nums.specs.declared.keyword.Letters.{Letters}
use Rattle.scan_nums.specs.declared.keyword.Letters.TheVariants as letters
use Rattle.scan_nums.specs.declared.keyword.Followed.{Followed}
use Rattle.scan_nums.specs.declared.keyword.Followed.TheVariants as followed
use Rattle.scan_nums.specs.Keywords.{Words, NoWord, Whole, words_of}

-- ---- the tables

abbrev pub physical_table : List (List ℕ × UnitName)
physical_table =
    (codes "pt", Physical Point) ∷ (codes "in", Physical Inch) ∷ (codes "pc", Physical Pica) ∷ (codes "cm", Physical Centimeter)
    ∷ (codes "mm", Physical Millimeter) ∷ (codes "bp", Physical BigPoint) ∷ (codes "dd", Physical DidotPoint)
    ∷ (codes "cc", Physical Cicero) ∷ (codes "sp", Physical ScaledPoint) ∷ []

abbrev pub length_table : List (List ℕ × UnitName)
length_table = (codes "em", Em) ∷ (codes "ex", Ex) ∷ (codes "true", True) ∷ physical_table

abbrev pub mu_table : List (List ℕ × UnitName)
mu_table = (codes "mu", Mu) ∷ []

-- behind `true`
unfoldable pub physical_words : Words UnitName
physical_words = words_of physical_table

-- behind a factor: by whether the unit is mu, and whether it may be infinite
unfoldable pub unit_words : Bool → Bool → Words UnitName
unit_words false false = words_of length_table
unit_words false true = words_of ((codes "fil", Fil) ∷ length_table)
unit_words true false = words_of mu_table
unit_words true true = words_of ((codes "fil", Fil) ∷ mu_table)

-- ---- keywords of which some letters were read

-- how many they are
abbrev pub letters_read : Letters → ℕ
letters_read letters.B = 1
letters_read letters.C = 1
letters_read letters.D = 1
letters_read letters.E = 1
letters_read letters.F = 1
letters_read letters.Fi = 2
letters_read letters.I = 1
letters_read letters.M = 1
letters_read letters.MOfMu = 1
letters_read letters.P = 1
letters_read letters.S = 1
letters_read letters.T = 1
letters_read letters.Tr = 2
letters_read letters.Tru = 3

-- what may follow them
unfoldable pub words_behind : Letters → Words UnitName
words_behind letters.B = words_of ((codes "p", Physical BigPoint) ∷ [])
words_behind letters.C = words_of ((codes "m", Physical Centimeter) ∷ (codes "c", Physical Cicero) ∷ [])
words_behind letters.D = words_of ((codes "d", Physical DidotPoint) ∷ [])
words_behind letters.E = words_of ((codes "m", Em) ∷ (codes "x", Ex) ∷ [])
words_behind letters.F = words_of ((codes "il", Fil) ∷ [])
words_behind letters.Fi = words_of ((codes "l", Fil) ∷ [])
words_behind letters.I = words_of ((codes "n", Physical Inch) ∷ [])
words_behind letters.M = words_of ((codes "m", Physical Millimeter) ∷ [])
words_behind letters.MOfMu = words_of ((codes "u", Mu) ∷ [])
words_behind letters.P = words_of ((codes "t", Physical Point) ∷ (codes "c", Physical Pica) ∷ [])
words_behind letters.S = words_of ((codes "p", Physical ScaledPoint) ∷ [])
words_behind letters.T = words_of ((codes "rue", True) ∷ [])
words_behind letters.Tr = words_of ((codes "ue", True) ∷ [])
words_behind letters.Tru = words_of ((codes "e", True) ∷ [])

-- what a letter led to, as words that may follow
abbrev pub followed_words : Followed → Words UnitName
followed_words followed.Broken = NoWord
followed_words (followed.More ls) = words_behind ls
followed_words (followed.Whole name) = Whole name

-- where a keyword goes on, just so many of its letters were read
abbrev pub ReadsUpTo : ℕ → Followed → Type 0
ReadsUpTo read followed.Broken = Unit {0}
ReadsUpTo read (followed.More ls) = letters_read ls ≡ read
ReadsUpTo read (followed.Whole name) = Unit {0}
