-- The start of a run is sound: the environments of the start, with the names of the primitives.
use Rattle.std.specs.Prelude.{◌≡◌, refl, ℕ, pos, negsuc, ◌<◌, ◌≤◌, ◌==◌, ◌&&◌, ◌||◌, nat_lt, nat_le, Bool, true, false, List, length, if◌then◌else◌}
use Rattle.std.specs.List.{AllByRecursion}
use Rattle.std.proofs.Common.{zero, suc, ap, sym, ◌∙◌, subst, arith}
use Rattle.std.proofs.lemmas.Bool.{ltb-true}
use Rattle.tokens.specs.Categories.{initial_category}
use Rattle.tokens.specs.Codes.{nullfont_code}
use Rattle.tokens.specs.Primitives.{all_count, primitive_count, primitive_meaning, start_meaning, primitive_names, length-primitive_names}
use Rattle.tokens.specs.declared.token.NameId.{NameId}
use Rattle.tokens.specs.declared.meaning.Meaning.{Meaning}
use Rattle.tokens.specs.declared.meaning.Meaning.TheVariants as meaning
use Rattle.tokens.specs.declared.meaning.RegKind.TheVariants.{Count, Dimen, Skip, Muskip, Box, Toks}
use Rattle.scan_nums.specs.Number.{IsAboveLowest, IsNegatableGlue}
use Rattle.pending.specs.Pending.{first_pending}
use Rattle.save_groups.specs.declared.key.Key.{Key}
use Rattle.save_groups.specs.declared.key.Key.TheVariants as key
use Rattle.save_groups.specs.declared.value.Value.TheVariants as value
use Rattle.save_groups.specs.Environments.{start_environment, beginning}
use Rattle.save_groups.specs.Keys.{is_glue_parameter, is_token_parameter}
use Rattle.save_groups.specs.StartValues.{start_number, start_parameter_by, start_code, start_value, zero_glue}
use Rattle.gullet.specs.State.{State}
use Rattle.gullet.specs.Sound.{Known, IsSoundMeaning, IsSoundValue, IsInRange, AreSoundCopies, IsSoundItem, AreSoundFacts, IsSound, known_of, untouched}
use Rattle.gullet.specs.SoundKept.{above_lowest, either, copies_grown}

-- the names of the primitives, and \nullfont
abbrev pub at_start : Known
at_start = record { names = all_count; fonts = 1 }

glue_above : IsNegatableGlue zero_glue
glue_above = (above_lowest 0, above_lowest 0, above_lowest 0)

parameter_by_sound : (place : ℕ) (glue list : Bool) → IsSoundValue at_start (start_parameter_by place glue list)
parameter_by_sound place true list = glue_above
parameter_by_sound place false true = tt
parameter_by_sound place false false = above_lowest (start_number place)

delcode_sound : (byte : ℕ) → IsAboveLowest (start_code 5 byte)
delcode_sound byte = either IsAboveLowest (byte == 46) (pos 0) (negsuc 0) (above_lowest 0) (record { le = tt })

code_sound : (table byte : ℕ) → IsAboveLowest (start_code table byte)
code_sound zero byte = above_lowest _
code_sound (suc zero) byte = above_lowest _
code_sound (suc (suc zero)) byte = above_lowest _
code_sound (suc (suc (suc zero))) byte = above_lowest _
code_sound (suc (suc (suc (suc zero)))) byte = above_lowest _
code_sound (suc (suc (suc (suc (suc table))))) byte = delcode_sound byte

primitive_sound : (code : ℕ) → code < all_count → IsSoundMeaning at_start (primitive_meaning code)
primitive_sound code below = either (IsSoundMeaning at_start) (code == nullfont_code) (meaning.Font 0) (meaning.Primitive code) (omega arith) below

count_below : (extended : Bool) → primitive_count extended ≤ all_count
count_below true = omega arith
count_below false = omega arith

meaning_sound : (extended : Bool) (id : ℕ) → IsSoundMeaning at_start (start_meaning extended id)
meaning_sound extended id = at (nat_lt id (primitive_count extended)) refl
  where
    at : (b : Bool) → nat_lt id (primitive_count extended) ≡ b → IsSoundMeaning at_start (if b then primitive_meaning id else meaning.Undefined)
    at true e =
        let below : id < primitive_count extended = ltb-true id (primitive_count extended) e in
        let all : primitive_count extended ≤ all_count = count_below extended in
        primitive_sound id (omega (arith, below, all))
    at false e = tt

value_sound : (extended : Bool) (e : Key) → IsSoundValue at_start (start_value extended e)
value_sound extended (key.Register Count number) = above_lowest 0
value_sound extended (key.Register Dimen number) = above_lowest 0
value_sound extended (key.Register Skip number) = glue_above
value_sound extended (key.Register Muskip number) = glue_above
value_sound extended (key.Register Box number) = tt
value_sound extended (key.Register Toks number) = tt
value_sound extended (key.Parameter place) = parameter_by_sound place (is_glue_parameter place) (is_token_parameter place)
value_sound extended (key.Code table byte) = code_sound table byte
value_sound extended (key.Name id) = meaning_sound extended id.0
value_sound extended (key.Active byte) = tt
value_sound extended key.CurrentFont = above_lowest 0
value_sound extended (key.Family size number) = above_lowest 0
value_sound extended key.Shape = tt
value_sound extended (key.Penalties array) = tt

category_sound : (byte : ℕ) → nat_lt (initial_category byte) 16 ≡ true
category_sound byte =
    either (λ (cat : ℕ). nat_lt cat 16 ≡ true) (byte == 92) _ _ refl
    (either (λ (cat : ℕ). nat_lt cat 16 ≡ true) (byte == 13) _ _ refl
    (either (λ (cat : ℕ). nat_lt cat 16 ≡ true) (byte == 32) _ _ refl
    (either (λ (cat : ℕ). nat_lt cat 16 ≡ true) (byte == 37) _ _ refl
    (either (λ (cat : ℕ). nat_lt cat 16 ≡ true) (byte == 127) _ _ refl
    (either (λ (cat : ℕ). nat_lt cat 16 ≡ true) (byte == 0) _ _ refl
    (either (λ (cat : ℕ). nat_lt cat 16 ≡ true) ((nat_le 65 byte && nat_le byte 90) || (nat_le 97 byte && nat_le byte 122)) 11 12 refl refl))))))

range_sound : (extended : Bool) (e : Key) → IsInRange at_start e (start_value extended e)
range_sound extended (key.Register kind number) = tt
range_sound extended (key.Parameter place) = tt
range_sound extended (key.Code zero byte) = category_sound byte
range_sound extended (key.Code (suc table) byte) = tt
range_sound extended (key.Name id) = tt
range_sound extended (key.Active byte) = tt
range_sound extended key.CurrentFont = omega arith
range_sound extended (key.Family size number) = omega arith
range_sound extended key.Shape = tt
range_sound extended (key.Penalties array) = tt

-- a name that isn't one of the primitives means nothing
other_untouched : (extended : Bool) (id : NameId) → all_count ≤ id.0 → start_environment extended (key.Name id) ≡ untouched
other_untouched extended id above = at (nat_lt id.0 (primitive_count extended)) refl
  where
    at : (b : Bool) → nat_lt id.0 (primitive_count extended) ≡ b
        → (let m : Meaning = if b then primitive_meaning id.0 else meaning.Undefined in record untouched { value = value.Meaning m }) ≡ untouched
    at true e =
        let below : id.0 < primitive_count extended = ltb-true id.0 (primitive_count extended) e in
        let all : primitive_count extended ≤ all_count = count_below extended in
        absurd (omega (arith, below, all, above))
    at false e = refl

beginning_sound : (extended : Bool) → AreSoundCopies at_start (beginning extended)
beginning_sound extended = record {
  last = record { entries = λ e. record { held = value_sound extended e; in_range = range_sound extended e }; others = other_untouched extended };
  groups = tt;
  saves = tt;
}

-- a state at the start of a run
pub record IsStart (extended : Bool) (line : List ℕ) (s : State) : Type 0 where
  pub pending : s.pending ≡ first_pending line
  pub copies : s.copies ≡ beginning extended
  pub names : s.names ≡ primitive_names
  pub fonts : 1 ≤ length s.facts.fonts
  pub facts : AreSoundFacts (known_of s) s.facts

pub start_sound : (extended : Bool) (line : List ℕ) (s : State) → IsStart extended line s → IsSound s
start_sound extended line s h =
    let all : length s.names ≡ all_count = ap (λ (names : List (List ℕ)). length names) h.names ∙ length-primitive_names in
    record {
      pending = subst (AllByRecursion (IsSoundItem (known_of s))) (sym h.pending) (tt, tt);
      copies = subst (AreSoundCopies (known_of s)) (sym h.copies)
          (copies_grown at_start (known_of s) (record { names = omega (arith, all); fonts = h.fonts }) (beginning extended) (beginning_sound extended));
      facts = h.facts;
    }
