-- Environments stay sound: where an entry of a known name is assigned a sound value, and where groups begin and end.
use Rattle.std.specs.Prelude.{◌≡◌, refl, ℕ, ◌≤◌, Bool, true, false, List, [], ◌∷◌, filter, if◌then◌else◌}
use Rattle.std.specs.List.{AllByRecursion}
use Rattle.std.proofs.Common.{subst, arith}
use Rattle.tokens.specs.declared.token.NameId.{NameId}
use Rattle.tokens.specs.declared.token.Token.{Token}
use Rattle.save_groups.specs.declared.entry.Entry.{Entry}
use Rattle.save_groups.specs.declared.key.Key.{Key}
use Rattle.save_groups.specs.declared.key.Key.TheVariants as key
use Rattle.save_groups.specs.declared.key.Scope.{Scope}
use Rattle.save_groups.specs.declared.key.Scope.TheVariants.{Local, Global}
use Rattle.save_groups.specs.declared.value.Value.{Value}
use Rattle.save_groups.specs.Assignment.{needs_save, saves_made, assigned_here, changes_nothing, with_outside, assigned}
use Rattle.save_groups.specs.Environments.{Environment, updated, OpenGroup, Copies, level_of, entered, left_by, left, with_after_by, with_after}
use Rattle.save_groups.specs.Keys.{same_key}
use Rattle.save_groups.proofs.KeyLemmas.{same_key-equal}
use Rattle.gullet.specs.Sound.{Known, IsSoundToken, IsKnownKey, IsSoundAt, IsSoundEnvironment, IsSoundGroup, IsSoundSave, AreSoundCopies, untouched}
use Rattle.gullet.specs.SoundKept.{either, each_two, each_image}

each_kept : {A : Type 0} (P : A → Type 0) (test : A → Bool) (xs : List A) → AllByRecursion P xs → AllByRecursion P (filter test xs)
each_kept P test [] h = tt
each_kept P test (x ∷ xs) h = either (AllByRecursion P) (test x) (x ∷ filter test xs) (filter test xs) (h.0, each_kept P test xs h.1) (each_kept P test xs h.1)

module _ (k : Known) where
  -- ---- one entry changes

  updated_entries : (e : Key) (entry : Entry Value) (env : Environment) → IsSoundAt k e entry.value → ((other : Key) → IsSoundAt k other (env other).value)
      → (other : Key) → IsSoundAt k other (updated e entry env other).value
  updated_entries e entry env h g other = at (same_key e other) refl
    where
      at : (b : Bool) → same_key e other ≡ b → IsSoundAt k other (if b then entry else env other).value
      at true same = let P : Key → Type 0 = λ x. IsSoundAt k x entry.value in subst P (same_key-equal e other same) h
      at false same = g other

  updated_others : (e : Key) (entry : Entry Value) (env : Environment) → IsKnownKey k e → ((id : NameId) → k.names ≤ id.0 → env (key.Name id) ≡ untouched)
      → (id : NameId) → k.names ≤ id.0 → updated e entry env (key.Name id) ≡ untouched
  updated_others e entry env known g id above = at (same_key e (key.Name id)) refl
    where
      below : e ≡ key.Name id → IsKnownKey k (key.Name id)
      below same = let P : Key → Type 0 = IsKnownKey k in subst P same known

      at : (b : Bool) → same_key e (key.Name id) ≡ b → (if b then entry else env (key.Name id)) ≡ untouched
      at true same = absurd (omega (arith, above, below (same_key-equal e (key.Name id) same)))
      at false same = g id above

  pub updated_sound : (e : Key) (entry : Entry Value) (env : Environment) → IsKnownKey k e → IsSoundAt k e entry.value → IsSoundEnvironment k env
      → IsSoundEnvironment k (updated e entry env)
  updated_sound e entry env known h g = record {
    entries = updated_entries e entry env h g.entries;
    others = updated_others e entry env known g.others;
  }

  -- ---- assignments

  saves_sound : (e : Key) (c : Copies) → IsKnownKey k e → AreSoundCopies k c → AllByRecursion (IsSoundSave k) (saves_made e c)
  saves_sound e c known h = either (AllByRecursion (IsSoundSave k)) (needs_save e c) _ _ (record { known = known; saved = h.last.entries e }, tt) tt

  outside_sound : (e : Key) (entry : Entry Value) → IsKnownKey k e → IsSoundAt k e entry.value → (group : OpenGroup) → IsSoundGroup k group → IsSoundGroup k (with_outside e entry group)
  outside_sound e entry known h group g = record { outside = updated_sound e entry group.outside known h g.outside; after = g.after }

  pub assigned_sound : (e : Key) (v : Value) (scope : Scope) (c : Copies) → IsKnownKey k e → IsSoundAt k e v → AreSoundCopies k c → AreSoundCopies k (assigned e v scope c)
  assigned_sound e v Local c known h g =
      either (AreSoundCopies k) (changes_nothing e v c) c (assigned_here e v c) g
      (record {
        last = updated_sound e (record { value = v; level = level_of c }) c.last known h g.last;
        groups = g.groups;
        saves = each_two (IsSoundSave k) c.saves (saves_made e c) g.saves (saves_sound e c known g);
      })
  assigned_sound e v Global c known h g = record {
    last = updated_sound e (record { value = v; level = 1 }) c.last known h g.last;
    groups = each_image (IsSoundGroup k) (IsSoundGroup k) (with_outside e (record { value = v; level = 1 })) (outside_sound e (record { value = v; level = 1 }) known h) c.groups g.groups;
    saves = g.saves;
  }

  -- ---- groups

  pub entered_sound : (kind line : ℕ) (c : Copies) → AreSoundCopies k c → AreSoundCopies k (entered kind line c)
  entered_sound kind line c h = record { last = h.last; groups = (record { outside = h.last; after = tt }, h.groups); saves = h.saves }

  left_by_sound : (groups : List OpenGroup) (c : Copies) → AllByRecursion (IsSoundGroup k) groups → AreSoundCopies k c → AreSoundCopies k (left_by groups c)
  left_by_sound [] c g h = h
  left_by_sound (group ∷ groups) c g h = record {
    last = g.0.outside;
    groups = g.1;
    saves = each_kept (IsSoundSave k) _ c.saves h.saves;
  }

  pub left_sound : (c : Copies) → AreSoundCopies k c → AreSoundCopies k (left c)
  left_sound c h = left_by_sound c.groups c h.groups h

  after_by_sound : (t : Token) (groups : List OpenGroup) (c : Copies) → IsSoundToken k t → AllByRecursion (IsSoundGroup k) groups → AreSoundCopies k c
      → AreSoundCopies k (with_after_by t groups c)
  after_by_sound t [] c i g h = h
  after_by_sound t (group ∷ groups) c i g h = record {
    last = h.last;
    groups = (record { outside = g.0.outside; after = each_two (IsSoundToken k) group.after (t ∷ []) g.0.after (i, tt) }, g.1);
    saves = h.saves;
  }

  pub after_sound : (t : Token) (c : Copies) → IsSoundToken k t → AreSoundCopies k c → AreSoundCopies k (with_after t c)
  after_sound t c i h = after_by_sound t c.groups c i h.groups h

-- what is assigned, and groups that begin and end, keep environments sound
pub record CopiesLaw : Type 0 where
  pub assigned : (k : Known) (e : Key) (v : Value) (scope : Scope) (c : Copies) → IsKnownKey k e → IsSoundAt k e v → AreSoundCopies k c → AreSoundCopies k (assigned e v scope c)
  pub entered : (k : Known) (kind line : ℕ) (c : Copies) → AreSoundCopies k c → AreSoundCopies k (entered kind line c)
  pub left : (k : Known) (c : Copies) → AreSoundCopies k c → AreSoundCopies k (left c)
  pub after : (k : Known) (t : Token) (c : Copies) → IsSoundToken k t → AreSoundCopies k c → AreSoundCopies k (with_after t c)

pub copies_law : CopiesLaw
copies_law = record { assigned = assigned_sound; entered = entered_sound; left = left_sound; after = after_sound }
