-- A look-up in the map is one in the files that it keeps.
use Rattle.std.proofs.Common.{◌∙◌, sym, ap, Some, Global, Vec, ℕ}
use Rattle.std.specs.Prelude.{option_map}
use Rattle.world.proofs.Kept.{get-files_of}
use Rattle.world.proofs.files.find.Goals as goal

pub returns-in-Some : goal.returns-in-Some
returns-in-Some c =
    ap Some c.as_slice.ensures.value
    ∙ ap (option_map (λ (v : Vec ℕ Global). v.items)) c.in-Some.ensures.value
    ∙ sym (get-files_of c.args.name.now c.args.files.now.entries)

pub returns-in-None : goal.returns-in-None
returns-in-None c =
    ap (option_map (λ (v : Vec ℕ Global). v.items)) c.in-None.ensures.value
    ∙ sym (get-files_of c.args.name.now c.args.files.now.entries)
