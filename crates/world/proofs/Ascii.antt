-- Good names are ASCII, and so they are text.
use Rattle.std.proofs.Common.{rules, ◌≡◌, ℕ, zero, suc, ◌<◌, Bool, true, false, List, [], ◌∷◌, ◌&&◌, refl}
use Rattle.std.specs.Prelude.{IsUtf8, IsTrue, slice_index}
use Rattle.std.specs.List.{list_all}
use Rattle.std.proofs.lemmas.Str.{IsUtf8-from_ascii}
use Rattle.world.specs.Name.{IsGoodName, is_name_byte}

first_holds : (a b : Bool) → (a && b) ≡ true → a ≡ true
first_holds true b h = refl
first_holds false b h = h

second_holds : (a b : Bool) → (a && b) ≡ true → b ≡ true
second_holds true b h = h
second_holds false b h = search rules

pub name_bytes_are_ascii : (name : List ℕ) → IsTrue (list_all is_name_byte name) → (i : ℕ) → slice_index name i < 128
name_bytes_are_ascii [] h i = search rules
name_bytes_are_ascii (b ∷ name) h zero = search rules
name_bytes_are_ascii (b ∷ name) h (suc i) = let rest = name_bytes_are_ascii name (search rules) i in search rules

pub good_name_is_text : (name : List ℕ) → IsGoodName name → IsUtf8 name
good_name_is_text name good =
    IsUtf8-from_ascii name (name_bytes_are_ascii name (second_holds _ _ (first_holds _ _ (first_holds _ _ good))))
