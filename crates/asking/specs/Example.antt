-- Meanings of calls on a part of a state, and of a call on the whole.
use Rattle.std.specs.Prelude.{ℕ, ◌+◌, ◌-◌, ◌^◌, min, Bool, true, false, if◌then◌else◌, List, Option, Some, None, Ok}
use Rattle.world.specs.Name.{is_good}
use Rattle.asking.specs.declared.example.Part.{Part}
use Rattle.asking.specs.declared.example.Whole.{Whole}
use Rattle.asking.specs.Library.{fetching}
use Rattle.asking.specs.Meaning.{Meant, still, ◌>>=◌, within}
use Rattle.asking.specs.Seen.{Outside}

-- a counter that stays at its last value
abbrev pub one_more : ℕ → ℕ
one_more n = min (n + 1) (2 ^ 64 - 1)

abbrev pub found_or_not : Option (List ℕ) × Part → Meant Part Bool
found_or_not (None, part) = still (Ok (false, part))
found_or_not (Some bytes, part) = still (Ok (true, record part { found = one_more part.found }))

unfoldable pub one_file : Outside → List ℕ → Part → Meant Part Bool
one_file o name part =
    (if is_good name then within (λ printer. record part { printer = printer }) (fetching o name part.printer) >>= found_or_not
    else still (Ok (false, part)))

unfoldable pub two_files : Outside → List ℕ → List ℕ → Part → Meant Part Bool
two_files o first second part = do
  one ← one_file o first part
  one_file o second one.1

abbrev pub with_part : Whole → Part → Whole
with_part whole part = record whole { part = part }

unfoldable pub counted_files : Outside → List ℕ → List ℕ → Whole → Meant Whole Bool
counted_files o first second whole = do
  one ← within (with_part whole) (two_files o first second whole.part)
  let counted : Whole = record one.1 { calls = one_more one.1.calls } in within (with_part counted) (one_file o first counted.part)
