-- What stands for the environments that are copied whole: the environment that is in force, and the saves. The
-- environment outside a group is found by undoing the saves from the newest to the first of that group (tex.web
-- 281, where a group ends).
use Rattle.std.specs.Prelude.{ℕ, ◌==◌, Bool, List, [], ◌∷◌, take, drop, if◌then◌else◌}
use Rattle.tokens.specs.declared.token.Token.{Token}
use Rattle.save_groups.specs.declared.save.Save.{Save}
use Rattle.save_groups.specs.Environments.{Environment, updated, OpenGroup, Copies}
use Rattle.save_groups.specs.declared.current.Current.{Current}
use Rattle.save_groups.specs.InForce.{at}

-- an open group, with the number of saves before it
pub record Mark : Type 0 where
  pub kind : ℕ
  pub line : ℕ
  pub after : List Token
  pub first : ℕ

pub record Store : Type 0 where
  pub extended : Bool
  pub entries : Current
  -- the innermost first
  pub groups : List Mark
  -- the oldest first
  pub saves : List Save

-- one save undone: where a global assignment came since, the level is 1, and its value stays
abbrev pub restored : Save → Environment → Environment
restored save env =
    if (env save.key).level == 1 then env else updated save.key (record { value = save.value; level = save.level }) env

-- all saves of a list undone, the newest first
abbrev pub undone : List Save → Environment → Environment
undone [] env = env
undone (save ∷ newer) env = restored save (undone newer env)

-- the open groups: outside the innermost one its saves are undone, and the saves before those are of the others
abbrev pub groups_of : List Mark → List Save → Environment → List OpenGroup
groups_of [] saves env = []
groups_of (mark ∷ outer) saves env =
    record { outside = undone (drop mark.first saves) env; kind = mark.kind; line = mark.line; after = mark.after }
    ∷ groups_of outer (take mark.first saves) (undone (drop mark.first saves) env)

-- the environments that a store stands for
unfoldable pub copies_of : Store → Copies
copies_of s = record {
  extended = s.extended;
  last = at s.entries;
  groups = groups_of s.groups s.saves (at s.entries);
  saves = s.saves;
}
