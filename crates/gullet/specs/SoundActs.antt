-- What is done for phrases keeps the condition.
use Rattle.std.specs.Prelude.{refl, ℕ, ℤ, pos, ◌<◌, ◌-◌, ◌==◌, nat_lt, nat_le, min, Bool, true, List, [], ◌∷◌, map, length, slice_index_or, codes, Option, Some, None, Result, Ok, Err}
use Rattle.std.specs.List.{AllByRecursion}
use Rattle.std.proofs.Common.{zero, suc, arith}
use Rattle.scan_nums.specs.Number.{first_number, IsAboveLowest, IsNegatable}
use Rattle.scan_nums.specs.Starts.{is_from_to}
use Rattle.tokens.specs.Codes.{pretolerance_code, errorcontextlines_code, output_code, errhelp_code, inputlineno_code, relax_code}
use Rattle.tokens.specs.Budget.{is_spent}
use Rattle.tokens.specs.Names.{Interned, interned, interned-below, interned-grows, interned-kept}
use Rattle.tokens.specs.declared.kind.Kind.{Kind}
use Rattle.tokens.specs.declared.stop.Stop.{Stop}
use Rattle.tokens.specs.declared.token.NameId.{NameId}
use Rattle.tokens.specs.declared.token.Token.{Token}
use Rattle.tokens.specs.declared.token.Token.TheVariants as token
use Rattle.tokens.specs.declared.meaning.Meaning.TheVariants as meaning
use Rattle.tokens.specs.declared.meaning.RegKind.{RegKind}
use Rattle.tokens.specs.declared.meaning.RegKind.TheVariants.{Count, Dimen, Skip, Muskip, Box, Toks}
use Rattle.conditionals.specs.declared.stack.Branch.{Branch}
use Rattle.conditionals.specs.declared.stack.Branch.TheVariants.{Deciding, BeforeElse, BehindElse}
use Rattle.conditionals.specs.declared.stack.Condition.{Condition}
use Rattle.catcode_eye.specs.Lines.{source_lines}
use Rattle.catcode_eye.specs.Outlook.{Outlook, before_lines, next_line}
use Rattle.pending.specs.declared.source.Source.{Source}
use Rattle.pending.specs.Pending.{Item, Ready, From, replaced, ended_at, innermost, line_number, fresh, filled, argument, with_list, open_inputs, Opening, opening, opened_file, with_first_line}
use Rattle.world.specs.Output.{Output}
use Rattle.save_groups.specs.declared.key.Key.{Key}
use Rattle.save_groups.specs.declared.key.Key.TheVariants as key
use Rattle.save_groups.specs.declared.key.Scope.TheVariants.{Local}
use Rattle.save_groups.specs.declared.value.Value.{Value}
use Rattle.save_groups.specs.declared.value.Value.TheVariants as value
use Rattle.save_groups.specs.Environments.{Copies}
use Rattle.asking.specs.Did.{Did}
use Rattle.asking.specs.Did as did
use Rattle.asking.specs.Library.{fetching}
use Rattle.asking.specs.Meaning.{Meant, still, within, asks_within}
use Rattle.asking.specs.Seen.{Outside}
use Rattle.gullet.specs.declared.site.Passed.{Passed}
use Rattle.gullet.specs.declared.task.Act.{Act}
use Rattle.gullet.specs.declared.task.Act.TheVariants as act
use Rattle.gullet.specs.declared.task.Simple.{Simple}
use Rattle.gullet.specs.declared.task.Simple.TheVariants as simple
use Rattle.gullet.specs.declared.task.BranchWord.{BranchWord}
use Rattle.gullet.specs.declared.task.Told.{Told}
use Rattle.gullet.specs.declared.task.Told.TheVariants as told
use Rattle.gullet.specs.declared.task.BranchWord.TheVariants.{Fi, Else, Or}
use Rattle.gullet.specs.Acts
use Rattle.gullet.specs.Acts.{with_token, with_some, behind_relax, other, with_bytes, with_any_job, with_job_name, with_input_ended, with_text, look_register, pass_register, look_parameter, look_by, open_condition, leave, meet, make_name, with_meaning, with_name, is_undefined, with_job, with_asked, ask_file, begun, found, by_found, open_file, read_file, passing, perform}
use Rattle.gullet.specs.FileName.{file_of, job_of}
use Rattle.gullet.specs.Parameters.{number_of, number_at, end_line, new_line}
use Rattle.gullet.specs.Report.{file_begun}
use Rattle.gullet.specs.RawToken.{one_token}
use Rattle.gullet.specs.SoundRaw.{one_token_kept}
use Rattle.gullet.specs.State.{State}
use Rattle.gullet.specs.Troubles.{pass, passed_over, pass_undefined}
use Rattle.gullet.specs.Sound.{Known, IsSoundBeside, IsSoundToken, AreSoundTokens, IsSoundSome, IsSoundValue, AreSoundCopies, IsSoundItem, IsSound, known_of}
use Rattle.gullet.specs.SoundPhrases.{IsSoundTold, IsSoundAct}
use Rattle.gullet.specs.SoundCopies.{assigned_sound}
use Rattle.gullet.specs.SoundKept.{Anything, above_lowest, either, each_two, each_of, each_image, asks_from, Grows, items_grown, copies_grown, facts_grown, KeepsNames, names_same, IsKept, kept_itself, kept_then, Keeps, KeepsAll, keeps_from, keeps_still, keeps_did, keeps_then}

-- ---- a part of the state

module _ (s : State) (h : IsSound s) where
  pub pending_kept : (items : List Item) → AllByRecursion (IsSoundItem (known_of s)) items → IsKept s (record s { pending = items })
  pending_kept items g = record { sound = record { pending = g; copies = h.copies; facts = h.facts }; names = names_same s.names; fonts = refl }

  conditions_kept : (conditions : List Condition) → IsKept s (record s { conditions = conditions })
  conditions_kept conditions = record { sound = record { pending = h.pending; copies = h.copies; facts = h.facts }; names = names_same s.names; fonts = refl }

  printed_kept : (out : Output) (passed : Passed) → IsKept s (record s { out = out; passed = passed })
  printed_kept out passed = record { sound = record { pending = h.pending; copies = h.copies; facts = h.facts }; names = names_same s.names; fonts = refl }

  names_kept : (job asked : List ℕ) → IsKept s (record s { facts = record s.facts { job = job; asked = asked } })
  names_kept job asked = record {
    sound = record {
      pending = h.pending;
      copies = h.copies;
      facts = record {
        last_type = h.facts.last_type;
        last_glue = h.facts.last_glue;
        last_number = h.facts.last_number;
        page = h.facts.page;
        dead_cycles = h.facts.dead_cycles;
        prev_depth = h.facts.prev_depth;
        space_factor = h.facts.space_factor;
        prev_graf = h.facts.prev_graf;
        badness = h.facts.badness;
        interaction = h.facts.interaction;
        used_mag = h.facts.used_mag;
        after = h.facts.after;
        fonts = h.facts.fonts;
      };
    };
    names = names_same s.names;
    fonts = refl;
  }

  pub job_kept : (job : List ℕ) → IsKept s (record s { facts = record s.facts { job = job } })
  job_kept job = names_kept job s.facts.asked

  pub asked_kept : (file : List ℕ) → IsKept s (with_asked file s)
  asked_kept file = names_kept s.facts.job file

  -- ---- tokens in front

  pub token_kept : (t : Token) → IsSoundToken (known_of s) t → IsKept s (with_token t s)
  token_kept t g = pending_kept _ (g, h.pending)

  pub some_kept : (t : Option Token) → IsSoundSome (known_of s) t → IsKept s (with_some t s)
  some_kept None g = kept_itself s h
  some_kept (Some t) g = token_kept t g

  front_kept : (tokens : List Token) → AreSoundTokens (known_of s) tokens → IsKept s (record s { pending = with_list tokens s.pending })
  front_kept tokens g =
      pending_kept _
      (each_two (IsSoundItem (known_of s)) (map fresh tokens) s.pending (each_image (IsSoundToken (known_of s)) (IsSoundItem (known_of s)) fresh (λ t a. a) tokens g) h.pending)

  relax_kept : (t : Token) → IsSoundToken (known_of s) t → IsKept s (behind_relax t s)
  relax_kept t g = pending_kept _ (tt, (g, h.pending))

  bytes_kept : (text : List ℕ) → IsKept s (with_bytes text s)
  bytes_kept text =
      front_kept (map other text)
      (each_of (IsSoundToken (known_of s)) other text (λ byte. either (IsSoundToken (known_of s)) (byte == 32) (token.Char 10 32) (token.Char 12 byte) refl refl))

  any_job_kept : IsKept s (with_any_job s)
  any_job_kept = either (IsKept s) (length s.facts.job == 0) _ _ (job_kept (codes "texput")) (kept_itself s h)

  replaced_sound : (new : Source) (items : List Item) → AllByRecursion (IsSoundItem (known_of s)) items → AllByRecursion (IsSoundItem (known_of s)) (replaced new items)
  replaced_sound new [] g = tt
  replaced_sound new (Ready waiting ∷ items) g = (g.0, replaced_sound new items g.1)
  replaced_sound new (From source ∷ items) g = (tt, g.1)

  ended_sound : (source : Option Source) (items : List Item) → AllByRecursion (IsSoundItem (known_of s)) items → AllByRecursion (IsSoundItem (known_of s)) (ended_at source items)
  ended_sound None items g = g
  ended_sound (Some source) items g = replaced_sound (record source { is_ending = true }) items g

  input_ended_kept : IsKept s (with_input_ended s)
  input_ended_kept = pending_kept _ (ended_sound (innermost s.pending) s.pending h.pending)

pub list_kept : (tokens : List Token) (s : State) → IsSound s → AreSoundTokens (known_of s) tokens → IsKept s (record s { pending = with_list tokens s.pending })
list_kept tokens s h g = front_kept s h tokens g

-- a list at a place, or nothing
at_place : {A : Type 0} (P : A → Type 0) (xs : List A) (place : ℕ) (none : A) → AllByRecursion P xs → P none → P (slice_index_or xs place none)
at_place P [] place none h g = g
at_place P (x ∷ xs) zero none h g = h.0
at_place P (x ∷ xs) (suc place) none h g = at_place P xs place none h.1 g

module _ (k : Known) (arguments : List (List Token)) (each : AllByRecursion (AreSoundTokens k) arguments) where
  filled_sound : (body : List Token) → AllByRecursion (IsSoundBeside (λ number. Unit {0}) k) body → AreSoundTokens k (filled arguments body)
  filled_sound [] h = tt
  filled_sound (token.Char cat byte ∷ body) h = (h.0, filled_sound body h.1)
  filled_sound (token.Active byte ∷ body) h = (tt, filled_sound body h.1)
  filled_sound (token.Name id ∷ body) h = (h.0, filled_sound body h.1)
  filled_sound (token.Arg number ∷ body) h =
      each_two (IsSoundToken k) (argument arguments number) (filled arguments body) (at_place (AreSoundTokens k) arguments (number - 1) [] each tt) (filled_sound body h.1)
  filled_sound (token.Frozen number ∷ body) h = (tt, filled_sound body h.1)

text_kept : (s : State) → IsSound s → (body : List Token) (arguments : List (List Token))
    → AllByRecursion (IsSoundBeside (λ number. Unit {0}) (known_of s)) body → AllByRecursion (AreSoundTokens (known_of s)) arguments → IsKept s (with_text body arguments s)
text_kept s h body arguments g each = front_kept s h (filled arguments body) (filled_sound (known_of s) arguments each body g)

-- ---- troubles that are passed over

pass_kept : (kind : Kind) (s : State) → IsSound s → Keeps Anything s (pass kind s)
unfolding pass
pass_kept kind s h = either (Keeps Anything s) (nat_le 99 s.passed.recent) _ _ (kept_itself s h) (printed_kept s h _ _, tt)

done_kept : (s : State) → IsSound s → (d : Did State (Unit {0})) → Keeps Anything s d → Keeps IsSoundTold s (did.◌>>=◌ d Acts.done_by)
done_kept s h d g = keeps_did Anything IsSoundTold s d Acts.done_by g (λ a t k b. (kept_itself t k.sound, tt))

passing_kept : (kind : Kind) (back : Option Token) (s : State) → IsSound s → IsSoundSome (known_of s) back → Keeps IsSoundTold s (passing kind back s)
unfolding pass
passing_kept kind back s h g =
    either (λ (d : Did State (Unit {0})). Keeps IsSoundTold s (did.◌>>=◌ d (λ r. Acts.told_done (with_some back r.1)))) (nat_le 99 s.passed.recent) _ _
    (kept_itself s h)
    (let over : IsKept s (passed_over kind s) = printed_kept s h _ _ in
    (kept_then s (passed_over kind s) (with_some back (passed_over kind s)) over (some_kept (passed_over kind s) over.sound back g), tt))

undefined_kept : (t : Token) (s : State) → IsSound s → Keeps IsSoundTold s (did.◌>>=◌ (pass_undefined t s) Acts.done_by)
unfolding pass_undefined
undefined_kept t s h = done_kept s h _ (pass_kept _ s h)

-- ---- quantities

-- what is told is a number that has a negative
abbrev pub TellsNegatable : Known → Told → Type 0
TellsNegatable k told.Done = ⊥
TellsNegatable k (told.Number n) = IsNegatable n
TellsNegatable k (told.Word word) = ⊥
TellsNegatable k (told.Level level) = ⊥
TellsNegatable k told.GoOn = ⊥
TellsNegatable k (told.Text text) = ⊥
TellsNegatable k (told.Holds b) = ⊥
TellsNegatable k (told.Tokens tokens) = ⊥
TellsNegatable k (told.Definition parameters body) = ⊥

module _ (k : Known) where
  number_of_sound : (v : Value) → IsSoundValue k v → IsAboveLowest (number_of v)
  number_of_sound (value.Number n) h = h
  number_of_sound (value.Glue g) h = above_lowest 0
  number_of_sound (value.Tokens list) h = above_lowest 0
  number_of_sound (value.Meaning m) h = above_lowest 0
  number_of_sound (value.Boxed b) h = above_lowest 0
  number_of_sound (value.Table ns) h = above_lowest 0

  as_number_sound : (kind : RegKind) (v : Value) → IsSoundValue k v → IsNegatable (Acts.as_number kind v)
  as_number_sound Count (value.Number n) h = h
  as_number_sound Count (value.Glue g) h = above_lowest 0
  as_number_sound Count (value.Tokens list) h = above_lowest 0
  as_number_sound Count (value.Meaning m) h = above_lowest 0
  as_number_sound Count (value.Boxed b) h = above_lowest 0
  as_number_sound Count (value.Table ns) h = above_lowest 0
  as_number_sound Dimen (value.Number n) h = h
  as_number_sound Dimen (value.Glue g) h = above_lowest 0
  as_number_sound Dimen (value.Tokens list) h = above_lowest 0
  as_number_sound Dimen (value.Meaning m) h = above_lowest 0
  as_number_sound Dimen (value.Boxed b) h = above_lowest 0
  as_number_sound Dimen (value.Table ns) h = above_lowest 0
  as_number_sound Skip (value.Number n) h = above_lowest 0
  as_number_sound Skip (value.Glue g) h = h
  as_number_sound Skip (value.Tokens list) h = above_lowest 0
  as_number_sound Skip (value.Meaning m) h = above_lowest 0
  as_number_sound Skip (value.Boxed b) h = above_lowest 0
  as_number_sound Skip (value.Table ns) h = above_lowest 0
  as_number_sound Muskip (value.Number n) h = above_lowest 0
  as_number_sound Muskip (value.Glue g) h = h
  as_number_sound Muskip (value.Tokens list) h = above_lowest 0
  as_number_sound Muskip (value.Meaning m) h = above_lowest 0
  as_number_sound Muskip (value.Boxed b) h = above_lowest 0
  as_number_sound Muskip (value.Table ns) h = above_lowest 0
  as_number_sound Box v h = above_lowest 0
  as_number_sound Toks v h = above_lowest 0

  value_negatable : (c : Copies) (code place : ℕ) → AreSoundCopies k c → IsNegatable (Acts.register_value c code place)
  value_negatable c code place h =
      as_number_sound (Acts.register_kind code) (c.last (key.Register (Acts.register_kind code) place)).value (h.last.entries (key.Register (Acts.register_kind code) place)).held

  parameter_negatable : (c : Copies) (code : ℕ) → AreSoundCopies k c → IsAboveLowest (Acts.parameter_of c code)
  parameter_negatable c code h =
      either IsAboveLowest (is_from_to pretolerance_code errorcontextlines_code code) (number_at c (key.Parameter (code - pretolerance_code))) (pos 0)
      (number_of_sound (c.last (key.Parameter (code - pretolerance_code))).value (h.last.entries (key.Parameter (code - pretolerance_code))).held)
      (above_lowest 0)

pub register_kept : (code : ℕ) (n : ℤ) (s : State) → IsSound s → Keeps TellsNegatable s (look_register code n s)
unfolding look_register pass_register
register_kept code n s h =
    either (Keeps TellsNegatable s) (Acts.is_register s.copies.extended n) _ _ (kept_itself s h, value_negatable (known_of s) s.copies code (Acts.place_of n) h.copies)
    (keeps_did Anything TellsNegatable s (pass_register n s) (λ r. Acts.register_at code 0 r.1) (pass_kept _ s h)
    (λ a t k b. (kept_itself t k.sound, value_negatable (known_of t) t.copies code 0 k.sound.copies)))

pub look_kept : (code : ℕ) (place : Option ℕ) (s : State) → IsSound s → Keeps TellsNegatable s (look_by code place s)
unfolding look_parameter
look_kept code None s h = (
  kept_itself s h,
  either IsAboveLowest (code == inputlineno_code) (Acts.line_shown s) (Acts.parameter_of s.copies code) (above_lowest (min (line_number s.pending) 2147483647))
      (parameter_negatable (known_of s) s.copies code h.copies),
)
look_kept code (Some place) s h = register_kept code (pos place) s h

-- the codes of characters, and quantities that take a number
numbered_kept : (code : ℕ) (n : ℤ) (s : State) → IsSound s → Keeps TellsNegatable s (Acts.look_numbered code n s)
unfolding Acts.look_numbered Acts.look_code
numbered_kept code n s h =
    either (Keeps TellsNegatable s) (Acts.is_character_code code) _ _
    (either (Keeps TellsNegatable s) (Acts.is_byte n) _ _
    (kept_itself s h, number_of_sound (known_of s) (s.copies.last (Acts.code_key code n)).value (h.copies.last.entries (Acts.code_key code n)).held)
    (kept_itself s h))
    (register_kept code n s h)

told_kept : (s : State) (d : Did State Told) → Keeps TellsNegatable s d → Keeps IsSoundTold s d
told_kept s (Ok (told.Done, t)) h = absurd h.1
told_kept s (Ok (told.Number n, t)) h = (h.0, tt)
told_kept s (Ok (told.Word word, t)) h = absurd h.1
told_kept s (Ok (told.Level level, t)) h = absurd h.1
told_kept s (Ok (told.GoOn, t)) h = absurd h.1
told_kept s (Ok (told.Text text, t)) h = absurd h.1
told_kept s (Ok (told.Holds b, t)) h = absurd h.1
told_kept s (Ok (told.Tokens tokens, t)) h = absurd h.1
told_kept s (Ok (told.Definition parameters body, t)) h = absurd h.1
told_kept s (Err (stop, t)) h = h

-- ---- lists

list_of_sound : (k : Known) (v : Value) → IsSoundValue k v → AreSoundTokens k (Acts.list_of v)
list_of_sound k (value.Number n) h = tt
list_of_sound k (value.Glue g) h = tt
list_of_sound k (value.Tokens list) h = h
list_of_sound k (value.Meaning m) h = tt
list_of_sound k (value.Boxed b) h = tt
list_of_sound k (value.Table ns) h = tt

held_kept : (e : Key) (s : State) → IsSound s → IsKept s (Acts.with_held e s)
held_kept e s h = front_kept s h (Acts.list_of (s.copies.last e).value) (list_of_sound (known_of s) (s.copies.last e).value (h.copies.last.entries e).held)

put_register_kept : (n : ℤ) (s : State) → IsSound s → Keeps IsSoundTold s (Acts.put_register n s)
unfolding Acts.put_register pass_register
put_register_kept n s h =
    either (Keeps IsSoundTold s) (Acts.is_register s.copies.extended n) _ _ (held_kept (key.Register Toks (Acts.place_of n)) s h, tt)
    (keeps_did Anything IsSoundTold s (pass_register n s) (λ r. Ok (told.Done, Acts.with_held (key.Register Toks 0) r.1)) (pass_kept _ s h)
    (λ a t k b. (held_kept (key.Register Toks 0) t k.sound, tt)))

parameter_list_kept : (code : ℕ) (s : State) → IsSound s → IsKept s (Acts.with_parameter_list code s)
parameter_list_kept code s h =
    either (IsKept s) (is_from_to output_code errhelp_code code) (Acts.with_held (key.Parameter (code - pretolerance_code)) s) s
    (held_kept (key.Parameter (code - pretolerance_code)) s h) (kept_itself s h)

list_at_sound : (e : Key) (s : State) → IsSound s → AreSoundTokens (known_of s) (Acts.list_at s.copies e)
list_at_sound e s h = list_of_sound (known_of s) (s.copies.last e).value (h.copies.last.entries e).held

tell_register_kept : (n : ℤ) (s : State) → IsSound s → Keeps IsSoundTold s (Acts.tell_register n s)
unfolding Acts.tell_register pass_register
tell_register_kept n s h =
    either (Keeps IsSoundTold s) (Acts.is_register s.copies.extended n) _ _ (kept_itself s h, list_at_sound (key.Register Toks (Acts.place_of n)) s h)
    (keeps_did Anything IsSoundTold s (pass_register n s) (λ r. Ok (told.Tokens (Acts.list_at r.1.copies (key.Register Toks 0)), r.1)) (pass_kept _ s h)
    (λ a t k b. (kept_itself t k.sound, list_at_sound (key.Register Toks 0) t k.sound)))

tell_parameter_kept : (code : ℕ) (s : State) → IsSound s → Keeps IsSoundTold s (Acts.tell_parameter code s)
unfolding Acts.tell_parameter
tell_parameter_kept code s h = (
  kept_itself s h,
  either (AreSoundTokens (known_of s)) (is_from_to output_code errhelp_code code) (Acts.list_at s.copies (key.Parameter (code - pretolerance_code))) []
      (list_at_sound (key.Parameter (code - pretolerance_code)) s h) tt,
)

-- ---- conditions

open_kept : (kind : ℤ) (s : State) → IsSound s → Keeps IsSoundTold s (open_condition kind s)
unfolding open_condition
open_kept kind s h = (conditions_kept s h _, tt)

leave_kept : (word level : ℕ) (s : State) → IsSound s → Keeps IsSoundTold s (leave word level s)
unfolding leave
leave_kept word level s h =
    either (Keeps IsSoundTold s) (nat_lt level (Acts.count_open s)) _ _
    (either (Keeps IsSoundTold s) (word == 0) _ _ (conditions_kept s h _, tt) (kept_itself s h, tt))
    (either (Keeps IsSoundTold s) (word == 0) _ _ (conditions_kept s h _, tt)
    (either (Keeps IsSoundTold s) (word == 2) _ _ (kept_itself s h, tt) (conditions_kept s h _, tt)))

extra_kept : (word : BranchWord) (s : State) → IsSound s → Keeps IsSoundTold s (Acts.passed_extra word s)
extra_kept word s h = done_kept s h (pass (Acts.extra word) s) (pass_kept (Acts.extra word) s h)

ends_condition_kept : (word : BranchWord) (s : State) → IsSound s → Keeps IsSoundTold s (Acts.ends_condition word s)
ends_condition_kept Fi s h = (conditions_kept s h _, tt)
ends_condition_kept Else s h = extra_kept Else s h
ends_condition_kept Or s h = extra_kept Or s h

ends_branch_kept : (word : BranchWord) (kind : ℤ) (s : State) → IsSound s → Keeps IsSoundTold s (Acts.ends_branch word kind s)
ends_branch_kept Fi kind s h = (conditions_kept s h _, tt)
ends_branch_kept Else kind s h = (kept_itself s h, tt)
ends_branch_kept Or kind s h = either (Keeps IsSoundTold s) (Acts.is_case kind) _ _ (kept_itself s h, tt) (extra_kept Or s h)

meet_by_kept : (t : Token) (word : BranchWord) (branch : Branch) (kind : ℤ) (s : State) → IsSound s → IsSoundToken (known_of s) t
    → Keeps IsSoundTold s (Acts.meet_by t word branch kind s)
meet_by_kept t word Deciding kind s h g = (relax_kept s h t g, tt)
meet_by_kept t word BeforeElse kind s h g = ends_branch_kept word kind s h
meet_by_kept t word BehindElse kind s h g = ends_condition_kept word s h

meet_in_kept : (t : Token) (word : BranchWord) (conditions : List Condition) (s : State) → IsSound s → IsSoundToken (known_of s) t
    → Keeps IsSoundTold s (Acts.meet_in t word conditions s)
meet_in_kept t word [] s h g = extra_kept word s h
meet_in_kept t word (condition ∷ outer) s h g = meet_by_kept t word condition.branch condition.kind s h g

meet_kept : (t : Token) (word : BranchWord) (s : State) → IsSound s → IsSoundToken (known_of s) t → Keeps IsSoundTold s (meet t word s)
unfolding meet
meet_kept t word s h g = meet_in_kept t word s.conditions s h g

-- ---- names

meaning_sound : (k : Known) (id : NameId) (c : Copies) → id.0 < k.names → AreSoundCopies k c → AreSoundCopies k (with_meaning (key.Name id) c)
meaning_sound k id c known h =
    either (AreSoundCopies k) (is_undefined (c.last (key.Name id)).value) _ c
    (assigned_sound k (key.Name id) (value.Meaning (meaning.Primitive relax_code)) Local c known (record { held = omega arith; in_range = tt }) h) h

name_kept : (s : State) → IsSound s → (e : Interned) → KeepsNames s.names e.names → e.id < length e.names → IsKept s (with_name e s)
name_kept s h e names below =
    let k : Known = record { names = length e.names; fonts = length s.facts.fonts } in
    let more : Grows (known_of s) k = record { names = names.grow; fonts = omega arith } in
    record {
      sound = record {
        pending = (below, items_grown (known_of s) k more s.pending h.pending);
        copies = meaning_sound k (record { 0 = e.id }) s.copies below (copies_grown (known_of s) k more s.copies h.copies);
        facts = facts_grown (known_of s) k more s.facts h.facts;
      };
      names = names;
      fonts = refl;
    }

make_kept : (text : List ℕ) (s : State) → IsSound s → Keeps IsSoundTold s (make_name text s)
unfolding make_name
make_kept text s h = (
  name_kept s h (interned s.names text)
      (record { grow = interned-grows s.names text; texts = λ id below. interned-kept s.names text id below })
      (interned-below s.names text),
  tt,
)

-- ---- files

abbrev OpensSound : Known → Result Opening Stop → Type 0
OpensSound k (Ok o) = AllByRecursion (IsSoundItem k) o.pending
OpensSound k (Err stop) = Unit {0}

line_sound : (k : Known) (o : Opening) (r : Result (Bool × Outlook) Stop) → AllByRecursion (IsSoundItem k) o.pending → OpensSound k (with_first_line o r)
line_sound k o (Ok (is_taken, eye)) h = (tt, h)
line_sound k o (Err stop) h = tt

opened_sound : (k : Known) (bytes : List ℕ) (endline : ℤ) (o : Opening) → AllByRecursion (IsSoundItem k) o.pending → OpensSound k (opened_file bytes endline o)
opened_sound k bytes endline o h =
    either (OpensSound k) (nat_le 15 (open_inputs o.pending)) _ _ tt
    (either (OpensSound k) (is_spent o.budget) _ _ tt (line_sound k o (next_line endline (before_lines (source_lines (pos 10) true bytes))) h))

with_opened_kept : (s : State) → IsSound s → (r : Result Opening Stop) → OpensSound (known_of s) r → Keeps IsSoundTold s (Acts.with_opened s r)
with_opened_kept s h (Ok o) g = (record { sound = record { pending = g; copies = h.copies; facts = h.facts }; names = names_same s.names; fonts = refl }, tt)
with_opened_kept s h (Err stop) g = kept_itself s h

begun_kept : (bytes : List ℕ) (s : State) → IsSound s → Keeps IsSoundTold s (begun bytes s)
unfolding begun
begun_kept bytes s h =
    with_opened_kept s h (opened_file bytes (end_line s.copies) (opening s.pending s.budget))
    (opened_sound (known_of s) bytes (end_line s.copies) (opening s.pending s.budget) h.pending)

found_kept : (file bytes : List ℕ) (s : State) → IsSound s → Keeps IsSoundTold s (found file bytes s)
unfolding found
found_kept file bytes s h =
    let shown : State = record s { out = file_begun file (new_line s.copies) s.out } in
    let kept : IsKept s shown = printed_kept s h (file_begun file (new_line s.copies) s.out) s.passed in
    keeps_from IsSoundTold s shown (begun bytes shown) kept (begun_kept bytes shown kept.sound)

by_found_kept : (file : List ℕ) (bytes : Option (List ℕ)) (s : State) → IsSound s → Keeps IsSoundTold s (by_found file (bytes, s))
by_found_kept file None s h = kept_itself s h
by_found_kept file (Some bytes) s h = found_kept file bytes s h

fetch_kept : (o : Outside) (file : List ℕ) (s : State) → IsSound s → KeepsAll Anything s (within (λ out. record s { out = out }) (fetching o file s.out))
unfolding asks_within
fetch_kept o file s h place = record { asks = (printed_kept s h _ s.passed, tt); ends = (printed_kept s h _ s.passed, tt) }

with_job_kept : (file : List ℕ) (s : State) → IsSound s → IsKept s (with_job file s)
with_job_kept file s h = either (IsKept s) (length s.facts.job == 0) _ _ (job_kept s h (job_of file)) (kept_itself s h)

keeps_all_from : {A : Type 0} (P : Known → A → Type 0) (s t : State) (m : Meant State A) → IsKept s t → KeepsAll P t m → KeepsAll P s m
keeps_all_from P s t m k h place = record { asks = asks_from s t (m place).asks k (h place).asks; ends = keeps_from P s t (m place).ends k (h place).ends }

ask_file_kept : (o : Outside) (file : List ℕ) (s : State) → IsSound s → KeepsAll IsSoundTold s (ask_file o file s)
ask_file_kept o file s h =
    keeps_then Anything IsSoundTold s (within (λ out. record s { out = out }) (fetching o file s.out)) (λ r. still (by_found file r)) (fetch_kept o file s h)
    (λ bytes t k b. keeps_still IsSoundTold t (by_found file (bytes, t)) (by_found_kept file bytes t k.sound))

ask_named_kept : (o : Outside) (file : List ℕ) (s : State) → IsSound s → KeepsAll IsSoundTold s (ask_file o file (with_asked file s))
ask_named_kept o file s h =
    let kept : IsKept s (with_asked file s) = asked_kept s h file in
    keeps_all_from IsSoundTold s (with_asked file s) (ask_file o file (with_asked file s)) kept (ask_file_kept o file (with_asked file s) kept.sound)

open_file_kept : (o : Outside) (file : List ℕ) (s : State) → IsSound s → KeepsAll IsSoundTold s (open_file o file s)
unfolding open_file
open_file_kept o file s h =
    either (KeepsAll IsSoundTold s) (Acts.can_be_read file s) _ _
    (ask_named_kept o file s h)
    (keeps_still IsSoundTold s (Acts.not_found file s) (kept_itself s h))

read_file_kept : (o : Outside) (name : List ℕ) (s : State) → IsSound s → KeepsAll IsSoundTold s (read_file o name s)
unfolding read_file
read_file_kept o name s h =
    let kept : IsKept s (with_job (file_of name) s) = with_job_kept (file_of name) s h in
    keeps_all_from IsSoundTold s (with_job (file_of name) s) (open_file o (file_of name) (with_job (file_of name) s)) kept
    (open_file_kept o (file_of name) (with_job (file_of name) s) kept.sound)

-- ---- names of which one thing is done

job_name_kept : (s : State) → IsSound s → IsKept s (with_job_name (with_any_job s))
job_name_kept s h =
    let kept : IsKept s (with_any_job s) = any_job_kept s h in
    kept_then s (with_any_job s) (with_job_name (with_any_job s)) kept (bytes_kept (with_any_job s) kept.sound (with_any_job s).facts.job)

-- a token that was taken, with its flag
abbrev IsSoundPair : Known → Token × Bool → Type 0
IsSoundPair k r = IsSoundToken k r.0

-- what is done with it
then_kept : (s : State) (f : (Token × Bool) × State → Did State Told) → IsSound s
    → ((r : Token × Bool) (t : State) → IsSound t → IsSoundToken (known_of t) r.0 → Keeps IsSoundTold t (f (r, t))) → Keeps IsSoundTold s (did.◌>>=◌ (one_token s) f)
then_kept s f h g = keeps_did IsSoundPair IsSoundTold s (one_token s) f (one_token_kept s h) (λ r t k i. g r t k.sound i)

no_expand_kept : (s : State) → IsSound s → Keeps IsSoundTold s (Acts.no_expand s)
unfolding Acts.no_expand
no_expand_kept s h = then_kept s Acts.mark h (λ r t i g. (pending_kept t i _ (g, i.pending), tt))

show_token_kept : (s : State) → IsSound s → Keeps IsSoundTold s (Acts.show_token s)
unfolding Acts.show_token
show_token_kept s h = then_kept s Acts.with_string h (λ r t i g. (bytes_kept t i _, tt))

show_meaning_kept : (s : State) → IsSound s → Keeps IsSoundTold s (Acts.show_meaning s)
unfolding Acts.show_meaning
show_meaning_kept s h = then_kept s Acts.with_meaning_text h (λ r t i g. (bytes_kept t i _, tt))

compare_kept : (s : State) → IsSound s → Keeps IsSoundTold s (Acts.compare_meanings s)
unfolding Acts.compare_meanings
compare_kept s h = then_kept s Acts.with_first h (λ a t i g. then_kept t (Acts.with_second a) i (λ b u j e. (kept_itself u j, tt)))

simply_kept : (thing : Simple) (s : State) → IsSound s → Keeps IsSoundTold s (Acts.simply thing s)
unfolding Acts.simply
simply_kept simple.EndInput s h = (input_ended_kept s h, tt)
simply_kept simple.NoExpand s h = no_expand_kept s h
simply_kept simple.TokenText s h = show_token_kept s h
simply_kept simple.MeaningText s h = show_meaning_kept s h
simply_kept simple.JobName s h = (job_name_kept s h, tt)

-- ---- all of them

pub perform_kept : (o : Outside) (a : Act) (s : State) → IsSound s → IsSoundAct (known_of s) a → KeepsAll IsSoundTold s (perform o a s)
unfolding perform Acts.refused Acts.cant_use
perform_kept o (act.Return t) s h g = keeps_still IsSoundTold s _ (token_kept s h t g, tt)
perform_kept o (act.InsertRelax t) s h g = keeps_still IsSoundTold s _ (relax_kept s h t g, tt)
perform_kept o (act.Pass kind back) s h g = keeps_still IsSoundTold s _ (passing_kept kind back s h g)
perform_kept o (act.PassUndefined t) s h g = keeps_still IsSoundTold s _ (undefined_kept t s h)
perform_kept o (act.Look q) s h g = keeps_still IsSoundTold s _ (told_kept s _ (look_kept q.code q.index s h))
perform_kept o (act.LookNumbered code n) s h g = keeps_still IsSoundTold s _ (told_kept s _ (numbered_kept code (first_number n) s h))
perform_kept o (act.PutRegister n) s h g = keeps_still IsSoundTold s _ (put_register_kept (first_number n) s h)
perform_kept o (act.PutParameter code) s h g = keeps_still IsSoundTold s _ (parameter_list_kept code s h, tt)
perform_kept o (act.TellRegister n) s h g = keeps_still IsSoundTold s _ (tell_register_kept (first_number n) s h)
perform_kept o (act.TellParameter code) s h g = keeps_still IsSoundTold s _ (tell_parameter_kept code s h)
perform_kept o (act.CantUse t) s h g = keeps_still IsSoundTold s _ (kept_itself s h)
perform_kept o (act.Digits numerals n) s h g = keeps_still IsSoundTold s _ (bytes_kept s h (Acts.digits numerals n), tt)
perform_kept o (act.Text body arguments) s h g = keeps_still IsSoundTold s _ (text_kept s h body arguments g.0 g.1, tt)
perform_kept o (act.Refuse name refusal) s h g = keeps_still IsSoundTold s _ (kept_itself s h)
perform_kept o act.Full s h g = keeps_still IsSoundTold s _ (kept_itself s h)
perform_kept o (act.Open kind) s h g = keeps_still IsSoundTold s _ (open_kept kind s h)
perform_kept o (act.Choose level) s h g = keeps_still IsSoundTold s _ (conditions_kept s h _, tt)
perform_kept o (act.Leave word level) s h g = keeps_still IsSoundTold s _ (leave_kept word level s h)
perform_kept o act.Close s h g = keeps_still IsSoundTold s _ (conditions_kept s h _, tt)
perform_kept o (act.Meet t word) s h g = keeps_still IsSoundTold s _ (meet_kept t word s h g)
perform_kept o (act.MakeName text) s h g = keeps_still IsSoundTold s _ (make_kept text s h)
perform_kept o (act.ReadFile name) s h g = read_file_kept o name s h
perform_kept o (act.AskMode asks) s h g = keeps_still IsSoundTold s _ (kept_itself s h, tt)
perform_kept o (act.AskMarked t) s h g = keeps_still IsSoundTold s _ (kept_itself s h, tt)
perform_kept o act.AskSame s h g = keeps_still IsSoundTold s _ (compare_kept s h)
perform_kept o (act.Simple thing) s h g = keeps_still IsSoundTold s _ (simply_kept thing s h)
