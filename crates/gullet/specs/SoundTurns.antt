-- Turns of phrases keep the condition, and so does all that a phrase comes to.
use Rattle.std.specs.Prelude.{is_some, refl, ℕ, Bool, true, false, List, [], ◌∷◌, ◌++◌, Option, Some, None, Ok}
use Rattle.std.proofs.Common.{zero, suc, arith}
use Rattle.tokens.specs.Codes.{relax_code}
use Rattle.tokens.specs.Names.{name_at}
use Rattle.tokens.specs.declared.token.Token.{Token}
use Rattle.tokens.specs.declared.token.Token.TheVariants as token
use Rattle.tokens.specs.declared.meaning.Meaning.{Meaning}
use Rattle.tokens.specs.declared.meaning.Meaning.TheVariants as meaning
use Rattle.pending.specs.declared.pending.Event.{Event}
use Rattle.pending.specs.declared.pending.Event.TheVariants as event
use Rattle.save_groups.specs.declared.key.Key.TheVariants as key
use Rattle.save_groups.specs.declared.value.Value.{Value}
use Rattle.save_groups.specs.declared.value.Value.TheVariants as value
use Rattle.save_groups.specs.Environments.{Copies}
use Rattle.asking.specs.Did.{Did}
use Rattle.asking.specs.Meaning.{Meant, still}
use Rattle.asking.specs.Seen.{Outside}
use Rattle.phrases.specs.Phrases.{More, Again, Inner, Aside, Ends, gives, begun, after}
use Rattle.gullet.specs.declared.context.Context.{Context}
use Rattle.gullet.specs.declared.task.Task.{Task}
use Rattle.gullet.specs.declared.task.Task.TheVariants as task
use Rattle.gullet.specs.declared.task.Told.{Told}
use Rattle.gullet.specs.declared.task.Told.TheVariants as told
use Rattle.gullet.specs.declared.task.Want.{Want}
use Rattle.gullet.specs.declared.task.Want.TheVariants as want
use Rattle.gullet.specs.Acts.{perform, with_some}
use Rattle.gullet.specs.Events.{take_event}
use Rattle.gullet.specs.Expansion.{Turned, is_forbidden, is_full, forbidden, raw_found, aside_by, expanded_found, character_by, character_of, character_found, behind_source, by_event, next_found, got, by_want, begin, rules, most_turns, outcome}
use Rattle.gullet.specs.Meanings.{expansion, is_missing, known, as_meaning, meaning_of, taken_meaning}
use Rattle.gullet.specs.State.{State}
use Rattle.gullet.specs.Wants.{Taken, Tok, Got, Was, wants}
use Rattle.gullet.specs.Sound.{Known, IsSoundToken, IsSoundMeaning, IsSoundValue, AreSoundCopies, IsSoundEvent, IsSound, known_of}
use Rattle.gullet.specs.SoundPhrases.{IsSoundTask, IsSoundSomeTask, IsSoundTold, IsSoundTaken, AreSoundTaken, IsSoundWant, IsSoundFound, as_macro}
use Rattle.gullet.specs.SoundKept.{Anything, either, each_map, each_two, Grows, token_grown, tokens_grown, meaning_grown, IsKept, kept_itself, kept_grows, Keeps, KeepsAll, keeps_still, keeps_did, keeps_then}
use Rattle.gullet.specs.SoundTaking.{event_kept}
use Rattle.gullet.specs.SoundWants.{expansion_sound, wants_sound}
use Rattle.gullet.specs.SoundActs.{some_kept, perform_kept}

-- ---- the meaning of a token

module _ (k : Known) where
  value_sound : (v : Value) → IsSoundValue k v → IsSoundMeaning k (as_meaning v)
  value_sound (value.Number n) h = tt
  value_sound (value.Glue g) h = tt
  value_sound (value.Tokens list) h = tt
  value_sound (value.Meaning m) h = h
  value_sound (value.Boxed b) h = tt
  value_sound (value.Table ns) h = tt

  known_sound : (m : Meaning) → IsSoundMeaning k m → IsSoundMeaning k (known m)
  known_sound meaning.Undefined h = h
  known_sound (meaning.Primitive code) h = either (IsSoundMeaning k) (is_missing code) meaning.Undefined (meaning.Primitive code) tt h
  known_sound (meaning.Macro m) h = h
  known_sound (meaning.Char cat byte) h = h
  known_sound (meaning.CharDef byte) h = h
  known_sound (meaning.MathCharDef number) h = h
  known_sound (meaning.Register kind number) h = h
  known_sound (meaning.Font font) h = h

  relax_sound : IsSoundMeaning k (meaning.Primitive relax_code)
  relax_sound = omega arith

  now_sound : (c : Copies) (t : Token) → AreSoundCopies k c → IsSoundToken k t → IsSoundMeaning k (meaning_of c t)
  now_sound c (token.Char cat byte) h g = g
  now_sound c (token.Active byte) h g = known_sound (as_meaning (c.last (key.Active byte)).value) (value_sound (c.last (key.Active byte)).value (h.last.entries (key.Active byte)).held)
  now_sound c (token.Name id) h g = known_sound (as_meaning (c.last (key.Name id)).value) (value_sound (c.last (key.Name id)).value (h.last.entries (key.Name id)).held)
  now_sound c (token.Arg number) h g = tt
  now_sound c (token.Frozen number) h g = relax_sound

  taken_sound : (c : Copies) (t : Token) (noexpand : Bool) → AreSoundCopies k c → IsSoundToken k t → IsSoundMeaning k (taken_meaning c t noexpand)
  unfolding taken_meaning
  taken_sound c t true h g = either (IsSoundMeaning k) (is_some (expansion t (meaning_of c t))) _ _ relax_sound (now_sound c t h g)
  taken_sound c t false h g = now_sound c t h g

  -- a name of one byte as its character
  character_by_sound : (t : Token) (name : List ℕ) → IsSoundToken k t → IsSoundToken k (character_by t name)
  character_by_sound t [] h = h
  character_by_sound t (byte ∷ []) h = refl
  character_by_sound t (byte ∷ next ∷ rest) h = h

  character_sound : (names : List (List ℕ)) (t : Token) → IsSoundToken k t → IsSoundToken k (character_of names t)
  character_sound names (token.Char cat byte) h = h
  character_sound names (token.Active byte) h = h
  character_sound names (token.Name id) h = character_by_sound (token.Name id) (name_at names id.0) h
  character_sound names (token.Arg number) h = h
  character_sound names (token.Frozen number) h = h

-- what is sound stays so where more is known
told_grown : (k l : Known) → Grows k l → (tells : Told) → IsSoundTold k tells → IsSoundTold l tells
told_grown k l g told.Done h = h
told_grown k l g (told.Number n) h = h
told_grown k l g (told.Word word) h = h
told_grown k l g (told.Level level) h = h
told_grown k l g told.GoOn h = h
told_grown k l g (told.Text text) h = h
told_grown k l g (told.Holds b) h = h
told_grown k l g (told.Tokens tokens) h = tokens_grown k l g tokens h
told_grown k l g (told.Definition parameters body) h = meaning_grown k l g (meaning.Macro (as_macro parameters body)) h

-- ---- one turn

-- what is found by a token keeps the condition
abbrev FindsSound : (Token → Meaning → State → Did State Turned) → Type 0
FindsSound finding =
    (t : Token) (m : Meaning) (s : State) → IsSound s → IsSoundToken (known_of s) t → IsSoundMeaning (known_of s) m → Keeps IsSoundFound s (finding t m s)

raw_kept : (c : Context) → FindsSound (raw_found c)
unfolding raw_found
raw_kept c t m s h g i = either (Keeps IsSoundFound s) (is_forbidden c m) (forbidden t s) (Ok (More (Tok t m), s)) (kept_itself s h) (kept_itself s h, (g, i))

aside_kept : (c : Context) (t : Token) (m : Meaning) (s : State) (inner : Option Task) → IsSound s → IsSoundToken (known_of s) t → IsSoundMeaning (known_of s) m
    → IsSoundSomeTask (known_of s) inner → Keeps IsSoundFound s (aside_by c t m s inner)
aside_kept c t m s None h g i j = (kept_itself s h, (g, i))
aside_kept c t m s (Some inner) h g i j = (kept_itself s h, j)

expanded_kept : (c : Context) → FindsSound (expanded_found c)
unfolding expanded_found
expanded_kept c t m s h g i =
    either (Keeps IsSoundFound s) (is_forbidden c m) (forbidden t s) (aside_by c t m s (expansion t m)) (kept_itself s h)
    (aside_kept c t m s (expansion t m) h g i (expansion_sound (known_of s) t m g i))

character_kept : (c : Context) → FindsSound (character_found c)
unfolding character_found
character_kept c t m s h g i = raw_kept c (character_of s.names t) m s h (character_sound (known_of s) s.names t g) i

behind_kept : (c : Context) (printed : Bool) (s : State) → IsSound s → Keeps IsSoundFound s (behind_source c printed s)
behind_kept c true s h = either (Keeps IsSoundFound s) c.closed _ _ (kept_itself s h) (kept_itself s h, tt)
behind_kept c false s h = (kept_itself s h, tt)

by_event_kept : (c : Context) (finding : Token → Meaning → State → Did State Turned) → FindsSound finding → (e : Event) (s : State) → IsSound s
    → IsSoundEvent (known_of s) e → Keeps IsSoundFound s (by_event c finding (e, s))
by_event_kept c finding f (event.Token t noexpand) s h g =
    f t (taken_meaning s.copies t noexpand) s h g (taken_sound (known_of s) s.copies t noexpand h.copies g)
by_event_kept c finding f event.Eof s h g = (kept_itself s h, tt)
by_event_kept c finding f (event.SourceEnd printed) s h g = behind_kept c printed s h
by_event_kept c finding f event.Empty s h g = kept_itself s h

next_kept : (c : Context) (finding : Token → Meaning → State → Did State Turned) → FindsSound finding → (s : State) → IsSound s → Keeps IsSoundFound s (next_found c finding s)
unfolding next_found
next_kept c finding f s h = keeps_did IsSoundEvent IsSoundFound s (take_event s) (by_event c finding) (event_kept s h) (λ e t k g. by_event_kept c finding f e t k.sound g)

pub want_kept : (o : Outside) (c : Context) (w : Want) (s : State) → IsSound s → IsSoundWant (known_of s) w → KeepsAll IsSoundFound s (by_want o c s w)
unfolding by_want
want_kept o c want.Raw s h g = keeps_still IsSoundFound s _ (next_kept c (raw_found c) (raw_kept c) s h)
want_kept o c want.Expanded s h g = keeps_still IsSoundFound s _ (next_kept c (expanded_found c) (expanded_kept c) s h)
want_kept o c want.Character s h g = keeps_still IsSoundFound s _ (next_kept c (character_found c) (character_kept c) s h)
want_kept o c (want.Act act) s h g =
    keeps_then IsSoundTold IsSoundFound s (perform o act s) got (perform_kept o act s h g)
    (λ tells t k a. keeps_still IsSoundFound t (Ok (More (Was tells), t)) (kept_itself t k.sound, a))
want_kept o c (want.Inner inner) s h g = keeps_still IsSoundFound s _ (kept_itself s h, g)
want_kept o c (want.Gives tells back) s h g =
    let kept : IsKept s (with_some back s) = some_kept s h back g.1 in
    keeps_still IsSoundFound s _ (kept, told_grown (known_of s) (known_of (with_some back s)) (kept_grows s (with_some back s) kept) tells g.0)
want_kept o c (want.Wrong kind) s h g = keeps_still IsSoundFound s _ (kept_itself s h)

-- ---- the recursion

taken_grown : (k l : Known) → Grows k l → (x : Taken) → IsSoundTaken k x → IsSoundTaken l x
taken_grown k l g (Tok t m) h = (token_grown k l g t h.0, meaning_grown k l g m h.1)
taken_grown k l g (Got tells) h = told_grown k l g tells h
taken_grown k l g (Was tells) h = told_grown k l g tells h

all_grown : (s t : State) → IsKept s t → (taken : List Taken) → AreSoundTaken (known_of s) taken → AreSoundTaken (known_of t) taken
all_grown s t k taken h = each_map (IsSoundTaken (known_of s)) (IsSoundTaken (known_of t)) (taken_grown (known_of s) (known_of t) (kept_grows s t k)) taken h

task_grown : (k l : Known) → Grows k l → (kind : Task) → IsSoundTask k kind → IsSoundTask l kind
task_grown k l g task.WholeNumber h = h
task_grown k l g (task.QuantityValue q) h = h
task_grown k l g (task.Undefined t) h = token_grown k l g t h
task_grown k l g (task.Call name called) h = (token_grown k l g name h.0, meaning_grown k l g (meaning.Macro called) h.1)
task_grown k l g task.ExpandAfter h = h
task_grown k l g (task.The straight) h = h
task_grown k l g (task.NumberText numerals) h = h
task_grown k l g (task.If asks) h = h
task_grown k l g (task.PassOver sought) h = h
task_grown k l g (task.BranchEnd t word) h = token_grown k l g t h
task_grown k l g task.NameText h = h
task_grown k l g (task.Input t) h = token_grown k l g t h
task_grown k l g task.FileName h = h
task_grown k l g (task.Text expanded) h = h
task_grown k l g (task.Definition expanded) h = h
task_grown k l g (task.Simple thing) h = h

module _ (o : Outside) where
  -- a phrase begins
  begin_kept : (c : Context) (kind : Task) (s : State) → IsSound s → Keeps Anything s (begin c kind s)
  begin_kept c kind s h = either (Keeps Anything s) (is_full c kind) _ _ (kept_itself s h) (kept_itself s h, tt)

  -- phrases that go on in this way keep the condition
  abbrev GoesOnSound : (Context → Task → List Taken → State → Meant State Told) → Type 0
  GoesOnSound further =
      (c : Context) (kind : Task) (taken : List Taken) (s : State) → IsSound s → IsSoundTask (known_of s) kind → AreSoundTaken (known_of s) taken
      → KeepsAll IsSoundTold s (further c kind taken s)

  module _ (further : Context → Task → List Taken → State → Meant State Told) (goes_on : GoesOnSound further) where
    begun_kept : (c : Context) (kind : Task) (s : State) → IsSound s → IsSoundTask (known_of s) kind → KeepsAll IsSoundTold s (begun (rules o) further c kind s)
    begun_kept c kind s h g =
        keeps_then Anything IsSoundTold s (still (begin c kind s)) (λ t. further t.0 kind [] t.1) (keeps_still Anything s (begin c kind s) (begin_kept c kind s h))
        (λ d t k a. goes_on d kind [] t k.sound (task_grown (known_of s) (known_of t) (kept_grows s t k) kind g) tt)

    after_kept : (c : Context) (kind : Task) (taken : List Taken) (f : Turned) (s : State) → IsSound s → IsSoundTask (known_of s) kind → AreSoundTaken (known_of s) taken
        → IsSoundFound (known_of s) f → KeepsAll IsSoundTold s (after (rules o) further c kind taken (f, s))
    after_kept c kind taken (More x) s h g i j = goes_on c kind (taken ++ x ∷ []) s h g (each_two (IsSoundTaken (known_of s)) taken (x ∷ []) i (j, tt))
    after_kept c kind taken Again s h g i j = goes_on c kind taken s h g i
    after_kept c kind taken (Inner inner) s h g i j =
        keeps_then IsSoundTold IsSoundTold s (begun (rules o) further c inner s) (λ t. further c kind (taken ++ Got t.0 ∷ []) t.1) (begun_kept c inner s h j)
        (λ tells t k a.
        goes_on c kind (taken ++ Got tells ∷ []) t k.sound (task_grown (known_of s) (known_of t) (kept_grows s t k) kind g)
        (each_two (IsSoundTaken (known_of t)) taken (Got tells ∷ []) (all_grown s t k taken i) (a, tt)))
    after_kept c kind taken (Aside inner) s h g i j =
        keeps_then IsSoundTold IsSoundTold s (begun (rules o) further c inner s) (λ t. further c kind taken t.1) (begun_kept c inner s h j)
        (λ tells t k a. goes_on c kind taken t k.sound (task_grown (known_of s) (known_of t) (kept_grows s t k) kind g) (all_grown s t k taken i))
    after_kept c kind taken (Ends tells) s h g i j = keeps_still IsSoundTold s (Ok (tells, s)) (kept_itself s h, j)

  pub phrase_kept : (n : ℕ) (c : Context) (kind : Task) (taken : List Taken) (s : State) → IsSound s → IsSoundTask (known_of s) kind → AreSoundTaken (known_of s) taken
      → KeepsAll IsSoundTold s (gives (rules o) n c kind taken s)
  unfolding gives
  phrase_kept zero c kind taken s h g i = keeps_still IsSoundTold s _ (kept_itself s h)
  phrase_kept (suc n) c kind taken s h g i =
      keeps_then IsSoundFound IsSoundTold s (by_want o c s (wants c kind taken)) (after (rules o) (gives (rules o) n) c kind taken)
      (want_kept o c (wants c kind taken) s h (wants_sound (known_of s) c kind taken g i))
      (λ f t k j.
      after_kept (gives (rules o) n) (λ d j ys u a b e. phrase_kept n d j ys u a b e) c kind taken f t k.sound
      (task_grown (known_of s) (known_of t) (kept_grows s t k) kind g) (all_grown s t k taken i) j)

  pub outcome_kept : (c : Context) (kind : Task) (s : State) → IsSound s → IsSoundTask (known_of s) kind → KeepsAll IsSoundTold s (outcome o c kind s)
  unfolding outcome
  outcome_kept c kind s h g = begun_kept (gives (rules o) most_turns) (λ d j ys u a b e. phrase_kept most_turns d j ys u a b e) c kind s h g
