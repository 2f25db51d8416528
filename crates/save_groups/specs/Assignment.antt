-- Assignments (The TeXbook, chapter 24; tex.web, part 19; the e-TeX manual, on assignments that change nothing):
-- what a local and a global one change in the environments, and what the former saves.
use Rattle.std.specs.Prelude.{◌==◌, nat_lt, Bool, not, ◌&&◌, List, [], ◌∷◌, ◌++◌, map, if◌then◌else◌}
use Rattle.save_groups.specs.declared.key.Key.{Key}
use Rattle.save_groups.specs.declared.key.Scope.{Scope}
use Rattle.save_groups.specs.declared.key.Scope.TheVariants.{Local, Global}
use Rattle.save_groups.specs.declared.value.Value.{Value}
use Rattle.save_groups.specs.declared.entry.Entry.{Entry}
use Rattle.save_groups.specs.declared.save.Save.{Save}
use Rattle.save_groups.specs.Values.{same_value}
use Rattle.save_groups.specs.Environments.{updated, OpenGroup, Copies, level_of}

-- whether a local assignment saves what stands in an entry: not outside all groups, and not where the entry was
-- assigned in this group already
abbrev pub needs_save : Key → Copies → Bool
needs_save key c = nat_lt 1 (level_of c) && not ((c.last key).level == level_of c)

-- the save that a local assignment makes: the pair that stood there, with the number of environments
abbrev pub saves_made : Key → Copies → List Save
saves_made key c =
    if needs_save key c
    then record { key = key; group = level_of c; level = (c.last key).level; value = (c.last key).value } ∷ []
    else []

-- a local assignment changes the environment that is in force
abbrev pub assigned_here : Key → Value → Copies → Copies
assigned_here key value c = record c {
  last = updated key (record { value = value; level = level_of c }) c.last;
  saves = c.saves ++ saves_made key c;
}

-- in extended mode, the very value that stands there changes nothing, not even the level
abbrev pub changes_nothing : Key → Value → Copies → Bool
changes_nothing key value c = c.extended && same_value (c.last key).value value

abbrev pub assigned_locally : Key → Value → Copies → Copies
assigned_locally key value c = if changes_nothing key value c then c else assigned_here key value c

-- an open group, outside which an entry changes
abbrev pub with_outside : Key → Entry Value → OpenGroup → OpenGroup
with_outside key entry group = record group { outside = updated key entry group.outside }

-- a global assignment changes all environments, and saves nothing
abbrev pub assigned_globally : Key → Value → Copies → Copies
assigned_globally key value c = record c {
  last = updated key (record { value = value; level = 1 }) c.last;
  groups = map (with_outside key (record { value = value; level = 1 })) c.groups;
}

abbrev pub assigned : Key → Value → Scope → Copies → Copies
assigned key value Local c = assigned_locally key value c
assigned key value Global c = assigned_globally key value c
