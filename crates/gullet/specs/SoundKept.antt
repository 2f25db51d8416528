-- What stays sound where more names are known; and what it means that a call or a phrase keeps the condition: each state
-- in which a file is asked for is sound, and so is the one that is left.
use Rattle.std.specs.Prelude.{◌≡◌, refl, ℕ, ℤ, pos, negsuc, ◌<◌, ◌≤◌, Bool, true, false, if◌then◌else◌, List, [], ◌∷◌, ◌++◌, map, length, Option, Some, None, Ok, Err}
use Rattle.std.specs.List.{AllByRecursion}
use Rattle.std.proofs.Common.{zero, suc, ◌∙◌, arith}
use Rattle.tokens.specs.Names.{name_at}
use Rattle.tokens.specs.declared.token.Token.{Token}
use Rattle.tokens.specs.declared.token.Token.TheVariants as token
use Rattle.tokens.specs.declared.meaning.Meaning.{Meaning as TokenMeaning}
use Rattle.tokens.specs.declared.meaning.Meaning.TheVariants as meaning
use Rattle.asking.specs.Did.{Did}
use Rattle.asking.specs.Did as did
use Rattle.asking.specs.Meaning.{Place, Ask, Meaning, Meant, walk, still, ◌>>=◌, asks_after, ends_after}
use Rattle.scan_nums.specs.Number.{IsAboveLowest}
use Rattle.pending.specs.Pending.{Item, Ready, From}
use Rattle.save_groups.specs.declared.key.Key.{Key}
use Rattle.save_groups.specs.declared.key.Key.TheVariants as key
use Rattle.save_groups.specs.declared.value.Value.{Value}
use Rattle.save_groups.specs.declared.value.Value.TheVariants as value
use Rattle.save_groups.specs.declared.save.Save.{Save}
use Rattle.save_groups.specs.Environments.{Environment, OpenGroup, Copies}
use Rattle.gullet.specs.declared.facts.Facts.{Facts}
use Rattle.gullet.specs.Parameters.{number_of}
use Rattle.gullet.specs.State.{State}
use Rattle.gullet.specs.Sound.{Known, IsSoundBeside, IsSoundToken, AreSoundTokens, IsSoundSome, IsSoundMeaning, IsParameter, IsSoundValue, IsFont, IsInRange, IsSoundAt, IsKnownKey, IsSoundEnvironment, IsSoundGroup, IsSoundSave, AreSoundCopies, IsSoundItem, AreSoundFacts, IsSound, known_of}

-- what holds of two choices holds of the one that is taken
pub either : {A : Type 0} (P : A → Type 0) (b : Bool) (x y : A) → P x → P y → P (if b then x else y)
either P true x y h g = h
either P false x y h g = g

-- a number that isn't below 0 has a negative
pub above_lowest : (n : ℕ) → IsAboveLowest (pos n)
above_lowest n = record { le = tt }

-- ---- lists

pub each_map : {A : Type 0} (P Q : A → Type 0) → ((x : A) → P x → Q x) → (xs : List A) → AllByRecursion P xs → AllByRecursion Q xs
each_map P Q f [] h = tt
each_map P Q f (x ∷ xs) h = (f x h.0, each_map P Q f xs h.1)

pub each_two : {A : Type 0} (P : A → Type 0) (xs ys : List A) → AllByRecursion P xs → AllByRecursion P ys → AllByRecursion P (xs ++ ys)
each_two P [] ys h g = g
each_two P (x ∷ xs) ys h g = (h.0, each_two P xs ys h.1 g)

pub each_of : {A B : Type 0} (P : B → Type 0) (f : A → B) (xs : List A) → ((x : A) → P (f x)) → AllByRecursion P (map f xs)
each_of P f [] h = tt
each_of P f (x ∷ xs) h = (h x, each_of P f xs h)

pub each_image : {A B : Type 0} (P : A → Type 0) (Q : B → Type 0) (f : A → B) → ((x : A) → P x → Q (f x)) → (xs : List A) → AllByRecursion P xs → AllByRecursion Q (map f xs)
each_image P Q f h [] g = tt
each_image P Q f h (x ∷ xs) g = (h x g.0, each_image P Q f h xs g.1)

-- ---- where more names are known

-- no name and no font is taken away
pub record Grows (k l : Known) : Type 0 where
  pub names : k.names ≤ l.names
  pub fonts : k.fonts ≤ l.fonts

pub grows_itself : (k : Known) → Grows k k
grows_itself k = record { names = omega arith; fonts = omega arith }

module _ (k l : Known) (g : Grows k l) where
  beside_grown : (arguments : ℕ → Type 0) (t : Token) → IsSoundBeside arguments k t → IsSoundBeside arguments l t
  beside_grown arguments (token.Char cat byte) h = h
  beside_grown arguments (token.Active byte) h = h
  beside_grown arguments (token.Name id) h = omega (arith, h, g.names)
  beside_grown arguments (token.Arg number) h = h
  beside_grown arguments (token.Frozen number) h = h

  pub token_grown : (t : Token) → IsSoundToken k t → IsSoundToken l t
  token_grown t h = beside_grown (λ number. ⊥) t h

  pub tokens_grown : (tokens : List Token) → AreSoundTokens k tokens → AreSoundTokens l tokens
  tokens_grown tokens h = each_map (IsSoundToken k) (IsSoundToken l) token_grown tokens h

  pub some_grown : (t : Option Token) → IsSoundSome k t → IsSoundSome l t
  some_grown None h = h
  some_grown (Some t) h = token_grown t h

  pub meaning_grown : (m : TokenMeaning) → IsSoundMeaning k m → IsSoundMeaning l m
  meaning_grown meaning.Undefined h = h
  meaning_grown (meaning.Primitive code) h = h
  meaning_grown (meaning.Macro m) h = record {
    params = each_map (IsSoundBeside (λ number. Unit {0}) k) (IsSoundBeside (λ number. Unit {0}) l) (λ t a. beside_grown (λ number. Unit {0}) t a) m.params h.params;
    body = each_map (IsSoundBeside (IsParameter m) k) (IsSoundBeside (IsParameter m) l) (λ t a. beside_grown (IsParameter m) t a) m.body h.body;
  }
  meaning_grown (meaning.Char cat byte) h = h
  meaning_grown (meaning.CharDef byte) h = h
  meaning_grown (meaning.MathCharDef number) h = h
  meaning_grown (meaning.Register kind number) h = h
  meaning_grown (meaning.Font font) h = omega (arith, h, g.fonts)

  pub value_grown : (v : Value) → IsSoundValue k v → IsSoundValue l v
  value_grown (value.Number n) h = h
  value_grown (value.Glue n) h = h
  value_grown (value.Tokens list) h = tokens_grown list h
  value_grown (value.Meaning m) h = meaning_grown m h
  value_grown (value.Boxed b) h = h
  value_grown (value.Table ns) h = h

  font_grown : (n : ℤ) → IsFont k n → IsFont l n
  font_grown (pos n) h = omega (arith, h, g.fonts)
  font_grown (negsuc n) h = h

  range_grown : (e : Key) (v : Value) → IsInRange k e v → IsInRange l e v
  range_grown (key.Register kind number) v h = h
  range_grown (key.Parameter place) v h = h
  range_grown (key.Code zero byte) v h = h
  range_grown (key.Code (suc table) byte) v h = h
  range_grown (key.Name id) v h = h
  range_grown (key.Active byte) v h = h
  range_grown key.CurrentFont v h = font_grown (number_of v) h
  range_grown (key.Family size number) v h = font_grown (number_of v) h
  range_grown key.Shape v h = h
  range_grown (key.Penalties array) v h = h

  at_grown : (e : Key) (v : Value) → IsSoundAt k e v → IsSoundAt l e v
  at_grown e v h = record { held = value_grown v h.held; in_range = range_grown e v h.in_range }

  key_grown : (e : Key) → IsKnownKey k e → IsKnownKey l e
  key_grown (key.Register kind number) h = h
  key_grown (key.Parameter place) h = h
  key_grown (key.Code table byte) h = h
  key_grown (key.Name id) h = omega (arith, h, g.names)
  key_grown (key.Active byte) h = h
  key_grown key.CurrentFont h = h
  key_grown (key.Family size number) h = h
  key_grown key.Shape h = h
  key_grown (key.Penalties array) h = h

  environment_grown : (env : Environment) → IsSoundEnvironment k env → IsSoundEnvironment l env
  environment_grown env h = record {
    entries = λ e. at_grown e (env e).value (h.entries e);
    others = λ id above. h.others id (let few : k.names ≤ l.names = g.names in omega (arith, few, above));
  }

  group_grown : (group : OpenGroup) → IsSoundGroup k group → IsSoundGroup l group
  group_grown group h = record { outside = environment_grown group.outside h.outside; after = tokens_grown group.after h.after }

  save_grown : (save : Save) → IsSoundSave k save → IsSoundSave l save
  save_grown save h = record { known = key_grown save.key h.known; saved = at_grown save.key save.value h.saved }

  pub copies_grown : (c : Copies) → AreSoundCopies k c → AreSoundCopies l c
  copies_grown c h = record {
    last = environment_grown c.last h.last;
    groups = each_map (IsSoundGroup k) (IsSoundGroup l) group_grown c.groups h.groups;
    saves = each_map (IsSoundSave k) (IsSoundSave l) save_grown c.saves h.saves;
  }

  item_grown : (item : Item) → IsSoundItem k item → IsSoundItem l item
  item_grown (Ready waiting) h = token_grown waiting.token h
  item_grown (From source) h = h

  pub items_grown : (items : List Item) → AllByRecursion (IsSoundItem k) items → AllByRecursion (IsSoundItem l) items
  items_grown items h = each_map (IsSoundItem k) (IsSoundItem l) item_grown items h

  pub facts_grown : (f : Facts) → AreSoundFacts k f → AreSoundFacts l f
  facts_grown f h = record {
    last_type = h.last_type;
    last_glue = h.last_glue;
    last_number = h.last_number;
    page = h.page;
    dead_cycles = h.dead_cycles;
    prev_depth = h.prev_depth;
    space_factor = h.space_factor;
    prev_graf = h.prev_graf;
    badness = h.badness;
    interaction = h.interaction;
    used_mag = h.used_mag;
    after = some_grown f.after h.after;
    fonts = h.fonts;
  }

-- ---- what a call keeps

-- no name's id is taken away, and no id's text changes
pub record KeepsNames (old new : List (List ℕ)) : Type 0 where
  pub grow : length old ≤ length new
  pub texts : (id : ℕ) → id < length old → name_at new id ≡ name_at old id

pub names_same : (names : List (List ℕ)) → KeepsNames names names
names_same names = record { grow = omega arith; texts = λ id below. refl }

pub names_then : (a b c : List (List ℕ)) → KeepsNames a b → KeepsNames b c → KeepsNames a c
names_then a b c h g = record {
  grow = (let first : length a ≤ length b = h.grow in let second : length b ≤ length c = g.grow in omega (arith, first, second));
  texts = λ id below.
      (let first : length a ≤ length b = h.grow in
      let further : id < length b = omega (arith, first, below) in
      g.texts id further ∙ h.texts id below);
}

-- what a call leaves is sound, the names are kept, and each font keeps its place, its name and its metrics
pub record IsKept (s t : State) : Type 0 where
  pub sound : IsSound t
  pub names : KeepsNames s.names t.names
  pub fonts : t.facts.fonts ≡ s.facts.fonts

pub kept_itself : (s : State) → IsSound s → IsKept s s
kept_itself s h = record { sound = h; names = names_same s.names; fonts = refl }

pub kept_then : (s t u : State) → IsKept s t → IsKept t u → IsKept s u
kept_then s t u h g = record { sound = g.sound; names = names_then s.names t.names u.names h.names g.names; fonts = g.fonts ∙ h.fonts }

fonts_stay : (f g : Facts) → g.fonts ≡ f.fonts → length f.fonts ≤ length g.fonts
fonts_stay f g same = let equal : length g.fonts ≡ length f.fonts = cc in omega (arith, equal)

-- more is known then
pub kept_grows : (s t : State) → IsKept s t → Grows (known_of s) (known_of t)
kept_grows s t h = record { names = h.names.grow; fonts = fonts_stay s.facts t.facts h.fonts }

-- nothing is said of a value
abbrev pub Anything : {A : Type 0} → Known → A → Type 0
Anything k a = Unit {0}

-- an end keeps the condition, and what is told is sound by what is known then
abbrev pub Keeps : {A : Type 0} → (Known → A → Type 0) → State → Did State A → Type 0
Keeps P s (Ok (a, t)) = IsKept s t × P (known_of t) a
Keeps P s (Err (stop, t)) = IsKept s t

-- and so does each state in which a file is asked for
abbrev pub IsAskKept : State → Ask State → Type 0
IsAskKept s ask = IsKept s ask.state

pub record KeepsAt {A : Type 0} (P : Known → A → Type 0) (s : State) (m : Meaning State A) : Type 0 where
  pub asks : AllByRecursion (IsAskKept s) m.asks
  pub ends : Keeps P s m.ends

abbrev pub KeepsAll : {A : Type 0} → (Known → A → Type 0) → State → Meant State A → Type 0
KeepsAll P s m = (place : Place) → KeepsAt P s (m place)

-- ---- one thing after another

pub keeps_from : {A : Type 0} (P : Known → A → Type 0) (s t : State) (d : Did State A) → IsKept s t → Keeps P t d → Keeps P s d
keeps_from P s t (Ok (a, u)) h g = (kept_then s t u h g.0, g.1)
keeps_from P s t (Err (stop, u)) h g = kept_then s t u h g

pub asks_from : (s t : State) (asks : List (Ask State)) → IsKept s t → AllByRecursion (IsAskKept t) asks → AllByRecursion (IsAskKept s) asks
asks_from s t asks h g = each_map (IsAskKept t) (IsAskKept s) (λ ask a. kept_then s t ask.state h a) asks g

pub keeps_still : {A : Type 0} (P : Known → A → Type 0) (s : State) (d : Did State A) → Keeps P s d → KeepsAll P s (still d)
keeps_still P s d h place = record { asks = tt; ends = h }

pub keeps_did : {A B : Type 0} (P : Known → A → Type 0) (Q : Known → B → Type 0) (s : State) (d : Did State A) (f : A × State → Did State B)
    → Keeps P s d → ((a : A) (t : State) → IsKept s t → P (known_of t) a → Keeps Q t (f (a, t))) → Keeps Q s (did.◌>>=◌ d f)
keeps_did P Q s (Ok (a, t)) f h g = keeps_from Q s t (f (a, t)) h.0 (g a t h.0 h.1)
keeps_did P Q s (Err (stop, t)) f h g = h

pub keeps_then : {A B : Type 0} (P : Known → A → Type 0) (Q : Known → B → Type 0) (s : State) (m : Meant State A) (f : A × State → Meant State B)
    → KeepsAll P s m → ((a : A) (t : State) → IsKept s t → P (known_of t) a → KeepsAll Q t (f (a, t))) → KeepsAll Q s (m >>= f)
keeps_then {A} {B} P Q s m f h g place = at (m place).ends (h place).ends
  where
    at : (ends : Did State A) → Keeps P s ends
        → (let whole : Meaning State B = record { asks = (m place).asks ++ asks_after ends f (walk (m place).asks place); ends = ends_after ends f (walk (m place).asks place) } in KeepsAt Q s whole)
    at (Ok (a, t)) d =
        let behind : KeepsAt Q t (f (a, t) (walk (m place).asks place)) = g a t d.0 d.1 (walk (m place).asks place) in
        record {
          asks = each_two (IsAskKept s) (m place).asks (f (a, t) (walk (m place).asks place)).asks (h place).asks
              (asks_from s t (f (a, t) (walk (m place).asks place)).asks d.0 behind.asks);
          ends = keeps_from Q s t (f (a, t) (walk (m place).asks place)).ends d.0 behind.ends;
        }
    at (Err (stop, t)) d = record { asks = each_two (IsAskKept s) (m place).asks [] (h place).asks tt; ends = d }
