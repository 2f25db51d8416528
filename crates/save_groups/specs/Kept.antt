-- What the store of environments keeps: each entry that belongs to an open group was saved in it, what was saved in
-- a group belongs to it or was assigned globally since, and the saves of a group stand together.
use Rattle.std.specs.Prelude.{◌≡◌, ◌⊎◌, ℕ, ◌+◌, ◌≤◌, ◌==◌, Bool, ◌&&◌, true, List, [], ◌∷◌, ◌++◌, length, take, drop, map, reverse, vec_len, vec_capacity, IsTrue}
use Rattle.std.specs.List.{list_any, list_all}
use Rattle.tokens.specs.declared.token.Token.{Token}
use Rattle.save_groups.specs.declared.key.Key.{Key}
use Rattle.save_groups.specs.declared.save.Save.{Save}
use Rattle.save_groups.specs.declared.group.Group.{Group}
use Rattle.save_groups.specs.declared.env.Env.TheInside.{Inside}
use Rattle.save_groups.specs.Keys.{same_key, is_key}
use Rattle.save_groups.specs.Values.{fits, is_in_mode}
use Rattle.save_groups.specs.Environments.{Environment}
use Rattle.save_groups.specs.declared.current.Current.{Current}
use Rattle.save_groups.specs.InForce.{at, has_room}
use Rattle.save_groups.specs.Holding.{IsHeldBy, held_in}
use Rattle.save_groups.specs.Standing.{Store, Mark, undone}

-- whether an entry was saved
abbrev pub is_saved : Key → List Save → Bool
is_saved key saves = list_any (λ save. same_key save.key key) saves

-- the innermost group, outside which there are so many environments
pub record IsKept (mark : Mark) (outside : ℕ) (saves : List Save) (env : Environment) : Type 0 where
  pub first : mark.first ≤ length saves
  -- no entry belongs to a group that isn't open
  pub levels : (key : Key) → (env key).level ≤ outside + 1
  -- what belongs to the group was saved in it
  pub saved : (key : Key) → (env key).level ≡ outside + 1 → IsTrue (is_saved key (drop mark.first saves))
  -- what was saved in the group belongs to it, but for what was assigned globally since
  pub owned : (key : Key) → IsTrue (is_saved key (drop mark.first saves)) → ((env key).level ≡ outside + 1) ⊎ ((env key).level ≡ 1)
  pub numbered : IsTrue (list_all (λ save. save.group == outside + 1) (drop mark.first saves))

-- all groups, from the inside out
abbrev pub AreKept : List Mark → List Save → Environment → Type 0
AreKept [] saves env = (saves ≡ []) × ((key : Key) → (env key).level ≡ 1)
AreKept (mark ∷ outer) saves env =
    IsKept mark (length outer + 1) saves env × AreKept outer (take mark.first saves) (undone (drop mark.first saves) env)

-- each register that a meaning names, one that stands in the environment or one that was saved, is one of the mode's
pub record IsInMode (extended : Bool) (saves : List Save) (env : Environment) : Type 0 where
  pub values : (key : Key) → IsTrue (is_in_mode extended (env key).value)
  pub saved : IsTrue (list_all (λ save. is_in_mode extended save.value) saves)

-- whether a save can be put back where it came from
abbrev pub can_return : Current → Save → Bool
can_return e save = has_room e save.key && (fits save.key save.value && is_key true save.key)

abbrev pub mark_of : Group → Mark
mark_of group = record { kind = group.kind; line = group.line; after = group.after.items; first = group.first }

abbrev pub marks_of : List Group → List Mark
marks_of groups = map mark_of (reverse groups)

-- a token waits for the end of the innermost group
abbrev pub waiting : Token → List Mark → List Mark
waiting token [] = []
waiting token (mark ∷ outer) = record mark { after = mark.after ++ token ∷ [] } ∷ outer

abbrev pub store_of : Inside → Store
store_of env = record {
  extended = env.extended;
  entries = env.current;
  groups = marks_of env.groups.items;
  saves = env.saves.items;
}

-- there is room for 255 groups
pub record IsStanding (env : Inside) : Type 0 where
  pub room : 255 ≤ vec_capacity env.groups
  pub few : vec_len env.groups ≤ 255
  pub kept : AreKept (marks_of env.groups.items) env.saves.items (at env.current)
  pub returns : IsTrue (list_all (can_return env.current) env.saves.items)
  pub in_mode : IsInMode env.extended env.saves.items (at env.current)
  -- each register from 256 on is held by the meanings in force and by the saves
  pub held : IsHeldBy env.current (held_in env.saves.items)
