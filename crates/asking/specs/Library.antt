-- How files are handed out: what each call of a library says.
use Rattle.std.specs.Prelude.{◌≡◌, ℕ, ◌+◌, true, List, ◌++◌, Option, Result, Ok, Err, Vec}
use Rattle.std.specs.Option.{option_map}
use Rattle.world.specs.Output.{Output, flushed}
use Rattle.world.specs.declared.world.WorldError.{WorldError}
use Rattle.world.specs.declared.world.WorldError.TheVariants.{Failed, OutOfMemory}
use Rattle.asking.specs.Meaning.{Place, Meant, asking}
use Rattle.asking.specs.Seen.{Outside, Seen, Calm, Misread, Miswrote, Told, is_prefix}

-- a file is asked for: what was printed is shown before, and the value is what the name stands for
abbrev pub fetching : Outside → List ℕ → Output → Meant Output (Option (List ℕ))
fetching o name printer = asking printer.unflushed (o.files name) (flushed printer)

-- a file's bytes as a list
abbrev pub bytes_found : {Z : Type 0} → Option (Vec ℕ Z) → Option (List ℕ)
bytes_found found = option_map (λ bytes. bytes.items) found

-- the place behind a text that is shown
abbrev pub showing : List ℕ → Place → Place
showing text place = record place { shown = place.shown ++ text }

-- a first part of a text was shown
abbrev pub IsPart : List ℕ → Place → Place → Type 0
IsPart text before after = (is_prefix after.shown (before.shown ++ text) ≡ true) × (after.asked ≡ before.asked)

-- a text is shown, without asking for a file
abbrev pub ShowsBeside : Outside → List ℕ → Seen → Seen → Result (Unit {0}) WorldError → Type 0
ShowsBeside o text old new (Ok done) = Calm old new × Told o (new.place ≡ showing text old.place)
ShowsBeside o text old new (Err Failed) = Miswrote o old new × Told o (IsPart text old.place new.place)
ShowsBeside o text old new (Err OutOfMemory) = Calm old new × Told o (IsPart text old.place new.place)

-- the place behind a file that is asked for
abbrev pub counting : Place → Place
counting place = record place { asked = place.asked + 1 }

-- a file is asked for, without showing a text
abbrev pub ReadsBeside : {Z : Type 0} → Outside → List ℕ → Seen → Seen → Result (Option (Vec ℕ Z)) WorldError → Type 0
ReadsBeside o name old new (Ok found) = Calm old new × Told o ((o.files name ≡ bytes_found found) × (new.place ≡ counting old.place))
ReadsBeside o name old new (Err Failed) = Misread o old new × Told o (new.place ≡ counting old.place)
ReadsBeside o name old new (Err OutOfMemory) = Calm old new × Told o (new.place.shown ≡ old.place.shown)
