-- What is seen, written without the bytes of a name: they stand apart.
use Rattle.std.specs.Prelude.{◌≡◌, ℕ, List, Ok, Err}
use Rattle.tokens.specs.declared.kind.Kind.TheVariants.{InvalidChar}
use Rattle.tokens.specs.declared.stop.Stop.TheVariants.{Trouble}
use Rattle.catcode_eye.specs.declared.seen.Seen.TheVariants.{Char as SeenChar, Active as SeenActive, Word as SeenWord, Par as SeenPar, LineEnd as SeenLineEnd}
use Rattle.catcode_eye.specs.declared.seen.Glance.{Glance}
use Rattle.catcode_eye.specs.declared.seen.Glance.TheVariants.{Char, Active, Word, Par, LineEnd, Invalid, OutOfMemory}
use Rattle.catcode_eye.specs.Outlook.{Outlook, next_seen}

-- a call answered `glance` and left `name` and `after`, as the definition says of the eye before it. Where
-- it refused, the eye stays as it was.
abbrev pub Glimpses : List ℕ → Outlook → Glance → List ℕ → Outlook → Type 0
Glimpses cats before (Char cat byte) name after = next_seen cats before ≡ Ok (SeenChar cat byte, after)
Glimpses cats before (Active byte) name after = next_seen cats before ≡ Ok (SeenActive byte, after)
Glimpses cats before Word name after = next_seen cats before ≡ Ok (SeenWord name, after)
Glimpses cats before Par name after = next_seen cats before ≡ Ok (SeenPar, after)
Glimpses cats before LineEnd name after = next_seen cats before ≡ Ok (SeenLineEnd, after)
Glimpses cats before Invalid name after = (next_seen cats before ≡ Err (Trouble InvalidChar)) × (after ≡ before)
Glimpses cats before OutOfMemory name after = after ≡ before
