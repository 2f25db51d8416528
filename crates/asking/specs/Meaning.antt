-- What a command means that may ask for files: a function of the files alone, which knows no call that fails.
-- It gives a value with the state behind it, or an end, and on the way there each asking for a file. What was
-- done outside before it is one more argument, the place, which no definition of a command names.
use Rattle.std.specs.Prelude.{ℕ, ◌+◌, ◌==◌, if◌then◌else◌, List, [], ◌∷◌, ◌++◌, Option, Some, None, Ok, Err}
use Rattle.asking.specs.Did.{Did, lifted}

-- what was done outside: the number of files that were asked for, and the text that the terminal has shown
pub record Place : Type 0 where
  pub asked : ℕ
  pub shown : List ℕ

-- a file is asked for. Before that the text is shown that was printed since the last showing; the state is the
-- one that is left then
pub record Ask (S : Type 0) : Type 0 where
  pub text : List ℕ
  pub state : S

-- the files that are asked for, one after the other, and how it ends where each of them is read
pub record Meaning (S A : Type 0) : Type 0 where
  pub asks : List (Ask S)
  pub ends : Did S A

abbrev pub Meant : Type 0 → Type 0 → Type 0
Meant S A = Place → Meaning S A

-- the place behind one asking
abbrev pub step : List ℕ → Place → Place
step text place = record { asked = place.asked + 1; shown = place.shown ++ text }

-- the place behind all of them
unfoldable pub walk : {S : Type 0} → List (Ask S) → Place → Place
walk [] place = place
walk (ask ∷ rest) place = walk rest (step ask.text place)

-- the state in which the file of this number is asked for, and the place behind that
unfoldable pub asked_at : {S : Type 0} → ℕ → List (Ask S) → Place → Option (S × Place)
asked_at number [] place = None
asked_at number (ask ∷ rest) place =
    (if number == place.asked + 1 then Some (ask.state, step ask.text place) else asked_at number rest (step ask.text place))

-- ---- what asks for nothing, one thing after another, one asking

-- nothing is asked for
abbrev pub still : {S A : Type 0} → Did S A → Meant S A
still did = λ place. record { asks = []; ends = did }

-- one thing after another: an end is the end of both
abbrev pub asks_after : {S A B : Type 0} → Did S A → (A × S → Meant S B) → Place → List (Ask S)
asks_after (Ok done) further place = (further done place).asks
asks_after (Err ended) further place = []

abbrev pub ends_after : {S A B : Type 0} → Did S A → (A × S → Meant S B) → Place → Did S B
ends_after (Ok done) further place = (further done place).ends
ends_after (Err ended) further place = Err ended

abbrev pub followed : {S A B : Type 0} → Meaning S A → (A × S → Meant S B) → Place → Meaning S B
followed m further place = record {
  asks = m.asks ++ asks_after m.ends further (walk m.asks place);
  ends = ends_after m.ends further (walk m.asks place);
}

infixl 10 ◌>>=◌
abbrev pub ◌>>=◌ : {S A B : Type 0} → Meant S A → (A × S → Meant S B) → Meant S B
m >>= further = λ place. followed (m place) further place

-- a file is asked for, with this text shown before it; what the file is, is the value
abbrev pub asking : {S A : Type 0} → List ℕ → A → S → Meant S A
asking text found state = λ place. record { asks = record { text = text; state = state } ∷ []; ends = Ok (found, state) }

-- ---- a part of the state

-- what is said of a part is said of the whole, with the rest kept beside it
abbrev pub ask_within : {S T : Type 0} → (S → T) → Ask S → Ask T
ask_within beside ask = record { text = ask.text; state = beside ask.state }

abbrev pub found_within : {S T : Type 0} → (S → T) → Option (S × Place) → Option (T × Place)
found_within beside None = None
found_within beside (Some (state, place)) = Some (beside state, place)

unfoldable pub asks_within : {S T : Type 0} → (S → T) → List (Ask S) → List (Ask T)
asks_within beside [] = []
asks_within beside (ask ∷ rest) = ask_within beside ask ∷ asks_within beside rest

abbrev pub within : {S T A : Type 0} → (S → T) → Meant S A → Meant T A
within beside m = λ place. record { asks = asks_within beside (m place).asks; ends = lifted beside (m place).ends }
