-- The prefixes of register numbers, by hexadecimal digits, most significant first (etex.ch, on sparse arrays: a
-- register number of four digits, and an index for each digit but the last).
use Rattle.std.specs.Prelude.{ℕ, ◌+◌, ◌*◌, ◌/◌, ◌%◌, ◌==◌, max, Bool, ◌&&◌, List, [], ◌∷◌, ◌++◌}
use Rattle.std.specs.Set.{distinct_count}
use Rattle.sparse_regs.specs.declared.prefix.Prefix.{Prefix}

-- the prefix of all registers, which has no digit
abbrev pub empty_prefix : Prefix
empty_prefix = record { digits = 0; number = 0 }

-- a prefix with a digit more
abbrev pub longer : Prefix → ℕ → Prefix
longer p digit = record { digits = p.digits + 1; number = 16 * p.number + digit }

-- all four digits of a register
abbrev pub whole : ℕ → Prefix
whole n = record { digits = 4; number = n }

abbrev pub digits_of : ℕ → List ℕ
digits_of n = n / 4096 ∷ n / 256 % 16 ∷ n / 16 % 16 ∷ n % 16 ∷ []

abbrev pub same_prefix : Prefix → Prefix → Bool
same_prefix p q = (p.digits == q.digits) && (p.number == q.number)

-- the four prefixes of a register, of one to four digits
abbrev pub prefixes_of : ℕ → List Prefix
prefixes_of n =
    record { digits = 1; number = n / 4096 }
    ∷ record { digits = 2; number = n / 256 }
    ∷ record { digits = 3; number = n / 16 }
    ∷ record { digits = 4; number = n } ∷ []

abbrev pub prefixes : List ℕ → List Prefix
prefixes [] = []
prefixes (n ∷ ns) = prefixes_of n ++ prefixes ns

-- how many nodes some registers take: one for each of their prefixes, however often it comes
abbrev pub node_count : List ℕ → ℕ
node_count numbers = distinct_count same_prefix (prefixes numbers)

-- the highest number of nodes so far, where some registers were held at first, then others, and so on
abbrev pub highest_count : List (List ℕ) → ℕ
highest_count [] = 0
highest_count (numbers ∷ later) = max (node_count numbers) (highest_count later)
