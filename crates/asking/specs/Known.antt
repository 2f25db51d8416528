-- What is known of a world that files are fetched from, by what it told at the start.
use Rattle.std.specs.Prelude.{◌≡◌, ℕ, List, [], ◌++◌, length, drop, Option, Some, None, is_some}
use Rattle.std.proofs.Common.{zero, suc}
use Rattle.std.specs.FinMap as tree
use Rattle.world.specs.Told.{Told, counted}
use Rattle.std.specs.Coded.{Coded-set, Unit-prop}
use Rattle.world.specs.Told.{told_code}
use Rattle.asking.specs.Meaning.{Place}
use Rattle.asking.specs.Seen.{Outside, Seen}

-- a counter after so many more calls. It stays at its last value
abbrev pub counted_more : ℕ → ℕ → ℕ
counted_more zero count = count
counted_more (suc more) count = counted (counted_more more count)

-- what a world that tells is for a run
abbrev pub files_told : Option Told → List ℕ → Option (List ℕ)
files_told None name = None
files_told (Some t) name = tree.get t.files name

abbrev pub outside_of : Option Told → Outside
outside_of told = record { tells = is_some told; files = files_told told }

-- what the terminal shows behind what it showed at the start
abbrev pub shown_since : Option Told → Option Told → List ℕ
shown_since None now = []
shown_since (Some t) None = []
shown_since (Some t) (Some u) = drop (length t.terminal) u.terminal

-- a told world after so many fetches and this text, its files unchanged
abbrev pub after_all : ℕ → List ℕ → Told → Told
after_all asked text t = record { files = t.files; terminal = t.terminal ++ text; fetched = counted_more asked t.fetched }

-- since the start so many files were fetched, and nothing was done besides but to show text
abbrev pub IsKnown : Option Told → Option Told → ℕ → Type 0
IsKnown None None asked = Unit {0}
IsKnown None (Some u) asked = ⊥
IsKnown (Some t) None asked = ⊥
IsKnown (Some t) (Some u) asked = u ≡ after_all asked (drop (length t.terminal) u.terminal) t

-- what was done outside since the start
abbrev pub place_since : Option Told → Option Told → ℕ → Place
place_since start now asked = record { asked = asked; shown = shown_since start now }

-- and what was seen
abbrev pub seen_of : Option Told → Option Told → ℕ → ℕ → ℕ → ℕ → Seen
seen_of start now asked reads writes which = record { place = place_since start now asked; reads = reads; writes = writes; which = which }

-- ---- laws

-- it is known in one way only
pub IsKnown-prop : (start now : Option Told) (asked : ℕ) → IsProp (IsKnown start now asked)
IsKnown-prop None None asked = Unit-prop
IsKnown-prop None (Some u) asked = λ p. absurd p
IsKnown-prop (Some t) None asked = λ p. absurd p
IsKnown-prop (Some t) (Some u) asked = Coded-set told_code u (after_all asked (drop (length t.terminal) u.terminal) t)
