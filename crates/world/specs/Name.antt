-- Names that may be asked of the outside world. A good name stands for a file under the current
-- folder: it has 1 to 200 bytes of printable ASCII without space, doesn't begin with a slash and
-- nowhere has two dots in a row, so that it can't lead out of the folder. The rule is this
-- program's own: tex.web 511 leaves the form of names to the system.
use Rattle.std.specs.Prelude.{ℕ, Bool, false, not, ◌&&◌, ◌||◌, ◌==◌, nat_le, List, [], ◌∷◌, length, IsTrue}
use Rattle.std.specs.List.{list_all}

-- a byte of printable ASCII that isn't a space
abbrev pub is_name_byte : ℕ → Bool
is_name_byte byte = nat_le 33 byte && nat_le byte 126

-- whether the name begins with a slash, byte 47
abbrev pub begins_with_slash : List ℕ → Bool
begins_with_slash [] = false
begins_with_slash (first ∷ rest) = first == 47

-- whether the name begins with a dot, byte 46
abbrev pub begins_with_dot : List ℕ → Bool
begins_with_dot [] = false
begins_with_dot (first ∷ rest) = first == 46

-- whether two dots stand in a row somewhere
abbrev pub has_two_dots : List ℕ → Bool
has_two_dots [] = false
has_two_dots (first ∷ rest) = ((first == 46) && begins_with_dot rest) || has_two_dots rest

abbrev pub is_good : List ℕ → Bool
is_good name =
    nat_le 1 (length name) && nat_le (length name) 200 && list_all is_name_byte name
    && not (begins_with_slash name) && not (has_two_dots name)

-- the name is good, as `fetch`, `create` and `append` ask
abbrev pub IsGoodName : List ℕ → Type 0
IsGoodName name = IsTrue (is_good name)
