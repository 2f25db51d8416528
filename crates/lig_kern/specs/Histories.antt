-- A word against the whole list of what was fed: it is what the font's program makes of that list.
use Rattle.std.specs.Prelude.{◌≡◌, ℕ, ◌+◌, Bool, List, [], ◌∷◌, ◌++◌, Result, Ok, Err}
use Rattle.tokens.specs.declared.stop.Stop.{Stop}
use Rattle.tokens.specs.Ends.{EndsAs}
use Rattle.tfm.specs.FontMetrics.{FontMetrics}
use Rattle.nodes.specs.declared.node.Node.{Node}
use Rattle.lig_kern.specs.Rewriting.{Word, word_of_fed, with_fed, closed, after, AreDue, list_of}
use Rattle.lig_kern.specs.Settling.{rewritings}

-- the word is what so many rewritings make of the list that was fed, each of which was due
pub record StandsFor (metrics : FontMetrics) (font : ℕ) (left : Bool) (fed : List ℕ) (count : ℕ) (word : Word) : Type 0 where
  pub due : AreDue metrics count (word_of_fed font left fed)
  pub made : word ≡ after metrics count (word_of_fed font left fed)

-- the list is what so many rewritings make of the whole word that was fed, with its boundaries
pub record IsSet (metrics : FontMetrics) (font : ℕ) (left : Bool) (fed : List ℕ) (right : Bool) (count : ℕ) (list : List Node) : Type 0 where
  pub due : AreDue metrics count (closed right (word_of_fed font left fed))
  pub ended : (after metrics count (closed right (word_of_fed font left fed))).ahead ≡ []
  pub made : list ≡ list_of metrics (after metrics count (closed right (word_of_fed font left fed)))

-- whatever was fed before, one character more is fed, and the rewritings of this call are added
abbrev pub KeepsHistory : FontMetrics → ℕ → ℕ → Word → Word → Type 0
KeepsHistory metrics byte steps word word_after =
    (font : ℕ) (left : Bool) (fed : List ℕ) (count : ℕ) → StandsFor metrics font left fed count word
    → StandsFor metrics font left (fed ++ byte ∷ []) (count + rewritings metrics steps (with_fed byte word)) word_after

-- so a call does, also one that ends with Spent
abbrev pub KeepsHistories : {A : Type 0} → FontMetrics → ℕ → ℕ → Word → Result A Stop → Word → Type 0
KeepsHistories metrics byte steps word (Ok value) word_after = KeepsHistory metrics byte steps word word_after
KeepsHistories metrics byte steps word (Err stop) word_after = EndsAs (λ end. KeepsHistory metrics byte steps word word_after) stop

-- whatever was fed, the list is what the whole word comes to
abbrev pub SetsHistory : FontMetrics → Word → Bool → ℕ → List Node → Type 0
SetsHistory metrics word right steps list =
    (font : ℕ) (left : Bool) (fed : List ℕ) (count : ℕ) → StandsFor metrics font left fed count word
    → IsSet metrics font left fed right (count + rewritings metrics steps (closed right word)) list
