-- Taking what comes next keeps the condition: a new name is known from then on, and a character that is seen has a
-- category that a token can have.
use Rattle.std.specs.Prelude.{◌≡◌, refl, ℕ, ℤ, pos, negsuc, ◌<◌, ◌≤◌, nat_lt, Bool, true, false, List, [], ◌∷◌, length, Result, Ok, Err, codes, if◌then◌else◌}
use Rattle.std.specs.List.{AllByRecursion, range_with_len}
use Rattle.std.proofs.Common.{zero, suc, sym, subst, arith}
use Rattle.std.proofs.lemmas.Bool.{ltb-true}
use Rattle.tokens.specs.Budget.{is_spent, after_step}
use Rattle.tokens.specs.Categories.{category}
use Rattle.tokens.specs.Names.{interned-below, interned-grows, interned-kept}
use Rattle.tokens.specs.declared.stop.Stop.{Stop}
use Rattle.tokens.specs.declared.stop.Stop.TheVariants.{Spent}
use Rattle.catcode_eye.specs.declared.role.Role.{Role}
use Rattle.catcode_eye.specs.declared.role.Role.TheVariants.{Escape, EndOfLine, Ignored, Space, Active as ActiveRole, Comment, Invalid, Plain}
use Rattle.catcode_eye.specs.declared.seen.Seen.{Seen}
use Rattle.catcode_eye.specs.declared.seen.Seen.TheVariants.{Char, Active, Word, Par, LineEnd}
use Rattle.catcode_eye.specs.declared.seen.State.{State as EyeState}
use Rattle.catcode_eye.specs.declared.seen.State.TheVariants.{NewLine, MidLine, SkipBlanks}
use Rattle.catcode_eye.specs.Outlook.{Outlook, with_sight, with_line, next_line_of}
use Rattle.catcode_eye.specs.Role.{role_of}
use Rattle.catcode_eye.specs.Seen.{Sight as EyeSight, sight, sight_at, sight_of, sight-step, spaced, named, named_by, is_letter, line_ended}
use Rattle.catcode_eye.specs.Superscripts.{reduced, length-reduced}
use Rattle.pending.specs.declared.pending.Event.{Event}
use Rattle.pending.specs.declared.pending.Event.TheVariants as event
use Rattle.pending.specs.declared.source.Origin.{Origin}
use Rattle.pending.specs.declared.source.Origin.TheVariants.{FirstLine, File, Pseudo}
use Rattle.pending.specs.declared.source.Sight.{Sight}
use Rattle.pending.specs.declared.source.Sight.TheVariants.{Token as TokenSight, Eof as EofSight, End}
use Rattle.pending.specs.declared.waiting.Waiting.{Waiting}
use Rattle.pending.specs.Did.{Did}
use Rattle.pending.specs.Pending.{Item, Ready, From}
use Rattle.pending.specs.Take as take
use Rattle.pending.specs.Take.{Looking, looking, Reading, reading, at_line_end, with_next, by_seen, paid_to, as_token, used_up, sight_over, next_sight, by_paid, by_sight, event_of, next_event}
use Rattle.save_groups.specs.declared.key.Key.TheVariants as key
use Rattle.save_groups.specs.Environments.{Copies}
use Rattle.save_groups.specs.Values.{is_category}
use Rattle.gullet.specs.Events.{reading_of, with_reading, in_state, with_end_shown, next_event_of, take_event}
use Rattle.gullet.specs.Parameters.{categories, magnitude, number_at, end_line}
use Rattle.gullet.specs.State.{State}
use Rattle.gullet.specs.Sound.{Known, is_character_category, IsSoundToken, IsSoundItem, IsSoundEvent, AreSoundCopies, IsSound, known_of}
use Rattle.gullet.specs.SoundKept.{each_of, Grows, items_grown, copies_grown, facts_grown, KeepsNames, names_same, IsKept, kept_itself, Keeps, keeps_did}

-- ---- the categories of bytes

-- beyond the end of the table the category counts as 0
category_below : (cats : List ℕ) (byte : ℕ) → AllByRecursion (λ cat. cat < 16) cats → category cats byte < 16
category_below [] byte h = omega arith
category_below (cat ∷ cats) zero h = h.0
category_below (cat ∷ cats) (suc byte) h = category_below cats byte h.1

magnitude_below : (n : ℤ) → is_category n ≡ true → magnitude n < 16
magnitude_below (pos n) h = ltb-true n 16 h
magnitude_below (negsuc n) h = omega arith

categories_below : (k : Known) (c : Copies) → AreSoundCopies k c → AllByRecursion (λ cat. cat < 16) (categories c)
unfolding categories
categories_below k c h =
    each_of (λ cat. cat < 16) (λ byte. magnitude (number_at c (key.Code 0 byte))) (range_with_len 0 256)
    (λ byte. magnitude_below (number_at c (key.Code 0 byte)) (h.last.entries (key.Code 0 byte)).in_range)

-- a byte that is seen as it stands has a category that a token can have
plain_character : (cat : ℕ) → cat < 16 → role_of cat ≡ Plain → is_character_category cat ≡ true
plain_character zero below e = cc
plain_character (suc zero) below e = refl
plain_character (suc (suc zero)) below e = refl
plain_character (suc (suc (suc zero))) below e = refl
plain_character (suc (suc (suc (suc zero)))) below e = refl
plain_character (suc (suc (suc (suc (suc zero))))) below e = cc
plain_character (suc (suc (suc (suc (suc (suc zero)))))) below e = refl
plain_character (suc (suc (suc (suc (suc (suc (suc zero))))))) below e = refl
plain_character (suc (suc (suc (suc (suc (suc (suc (suc zero)))))))) below e = refl
plain_character (suc (suc (suc (suc (suc (suc (suc (suc (suc zero))))))))) below e = cc
plain_character (suc (suc (suc (suc (suc (suc (suc (suc (suc (suc zero)))))))))) below e = cc
plain_character (suc (suc (suc (suc (suc (suc (suc (suc (suc (suc (suc zero))))))))))) below e = refl
plain_character (suc (suc (suc (suc (suc (suc (suc (suc (suc (suc (suc (suc zero)))))))))))) below e = refl
plain_character (suc (suc (suc (suc (suc (suc (suc (suc (suc (suc (suc (suc (suc zero))))))))))))) below e = cc
plain_character (suc (suc (suc (suc (suc (suc (suc (suc (suc (suc (suc (suc (suc (suc zero)))))))))))))) below e = cc
plain_character (suc (suc (suc (suc (suc (suc (suc (suc (suc (suc (suc (suc (suc (suc (suc zero))))))))))))))) below e = cc
plain_character (suc (suc (suc (suc (suc (suc (suc (suc (suc (suc (suc (suc (suc (suc (suc (suc n)))))))))))))))) below e = absurd (omega (arith, below))

-- ---- what the eye sees

abbrev IsSoundSeen : Seen → Type 0
IsSoundSeen (Char cat byte) = is_character_category cat ≡ true
IsSoundSeen (Active byte) = Unit {0}
IsSoundSeen (Word text) = Unit {0}
IsSoundSeen Par = Unit {0}
IsSoundSeen LineEnd = Unit {0}

abbrev ShowsSound : Result EyeSight Stop → Type 0
ShowsSound (Ok it) = IsSoundSeen it.seen
ShowsSound (Err stop) = Unit {0}

module _ (cats : List ℕ) (each : AllByRecursion (λ cat. cat < 16) cats) where
  named_sound : (heads : List ℕ) → IsSoundSeen (named cats heads).seen
  named_sound [] = tt
  named_sound (byte ∷ tail) = by_letter (is_letter cats byte)
    where
      by_letter : (b : Bool) → IsSoundSeen (named_by cats byte tail b).seen
      by_letter true = tt
      by_letter false = tt

  ended_sound : (state : EyeState) → IsSoundSeen (line_ended state).seen
  ended_sound NewLine = tt
  ended_sound MidLine = refl
  ended_sound SkipBlanks = tt

  spaced_sound : (further : List ℕ → Result EyeSight Stop) (tail : List ℕ) (state : EyeState) → ShowsSound (further tail) → ShowsSound (spaced further tail state)
  spaced_sound further tail NewLine h = h
  spaced_sound further tail MidLine h = refl
  spaced_sound further tail SkipBlanks h = h

  role_sound : (state : EyeState) (further : List ℕ → Result EyeSight Stop) (byte : ℕ) (tail : List ℕ) → ShowsSound (further tail)
      → (role : Role) → role_of (category cats byte) ≡ role → ShowsSound (sight_of cats state further byte tail role)
  role_sound state further byte tail h Escape e = named_sound (reduced cats tail)
  role_sound state further byte tail h EndOfLine e = ended_sound state
  role_sound state further byte tail h Ignored e = h
  role_sound state further byte tail h Space e = spaced_sound further tail state h
  role_sound state further byte tail h ActiveRole e = tt
  role_sound state further byte tail h Comment e = tt
  role_sound state further byte tail h Invalid e = tt
  role_sound state further byte tail h Plain e = plain_character (category cats byte) (category_below cats byte each) e

  head_sound : (state : EyeState) (further : List ℕ → Result EyeSight Stop) (bound : ℕ) (heads : List ℕ) → length heads ≤ bound
      → ((tail : List ℕ) → length tail < bound → ShowsSound (further tail)) → ShowsSound (sight_at cats state further heads)
  head_sound state further bound [] h before = tt
  head_sound state further bound (byte ∷ tail) h before = role_sound state further byte tail (before tail (omega arith)) (role_of (category cats byte)) refl

  sight_within : (state : EyeState) (n : ℕ) (rest : List ℕ) → length rest ≤ n → ShowsSound (sight cats state rest)
  sight_within state zero rest h =
      subst ShowsSound (sym (sight-step cats state rest))
      (head_sound state (sight cats state) (length rest) (reduced cats rest) (length-reduced cats rest) (λ tail less. absurd (omega arith)))
  sight_within state (suc n) rest h =
      subst ShowsSound (sym (sight-step cats state rest))
      (head_sound state (sight cats state) (length rest) (reduced cats rest) (length-reduced cats rest) (λ tail less. sight_within state n tail (omega arith)))

  sight_sound : (state : EyeState) (rest : List ℕ) → ShowsSound (sight cats state rest)
  sight_sound state rest = sight_within state (length rest) rest (omega arith)

-- ---- from a source

abbrev known_by : List (List ℕ) → ℕ → Known
known_by names fonts = record { names = length names; fonts = fonts }

abbrev IsSoundSight : Known → Sight → Type 0
IsSoundSight k (TokenSight t) = IsSoundToken k t
IsSoundSight k EofSight = Unit {0}
IsSoundSight k End = Unit {0}

-- what comes of a source keeps the names, and a token is sound
abbrev LooksSound : ℕ → List (List ℕ) → Did Looking Sight → Type 0
LooksSound fonts names (Ok (it, r)) = KeepsNames names r.names × IsSoundSight (known_by r.names fonts) it
LooksSound fonts names (Err (stop, r)) = KeepsNames names r.names

module _ (fonts : ℕ) (endline : ℤ) where
  name_sound : (text : List ℕ) (r : Looking) → LooksSound fonts r.names (take.named text r)
  name_sound text r = (
    record { grow = interned-grows r.names text; texts = λ id below. interned-kept r.names text id below },
    interned-below r.names text,
  )

  token_sound : (it : Seen) (r : Looking) → IsSoundSeen it → LooksSound fonts r.names (as_token it r)
  token_sound (Char cat byte) r h = (names_same r.names, h)
  token_sound (Active byte) r h = (names_same r.names, tt)
  token_sound (Word text) r h = name_sound text r
  token_sound Par r h = name_sound (codes "par") r
  token_sound LineEnd r h = (names_same r.names, tt)

  taken_sound : (it : Seen) (eye : Outlook) (r : Looking) → IsSoundSeen it → LooksSound fonts r.names (take.taken it eye r)
  taken_sound it eye r h = by_spent (is_spent r.budget)
    where
      by_spent : (b : Bool) → LooksSound fonts r.names (if b then Err (Spent, r) else as_token it (paid_to eye r))
      by_spent true = names_same r.names
      by_spent false = token_sound it (paid_to eye r) h

  used_sound : (origin : Origin) (r : Looking) → LooksSound fonts r.names (used_up origin r)
  used_sound FirstLine r = (names_same r.names, tt)
  used_sound File r = (names_same r.names, tt)
  used_sound Pseudo r = (names_same r.names, tt)

  module _ (further : Looking → Did Looking Sight) (goes_on : (r : Looking) → LooksSound fonts r.names (further r)) where
    end_sound : (r : Looking) (unread : List (List ℕ)) (b : Bool) → LooksSound fonts r.names (at_line_end endline further r unread b)
    end_sound r unread true = (names_same r.names, tt)
    end_sound r [] false = used_sound r.source.origin r
    end_sound r (line ∷ lines) false = by_spent (is_spent r.budget)
      where
        by_long : (b : Bool) → LooksSound fonts r.names (with_next further r (with_line endline line lines b))
        by_long true = names_same r.names
        by_long false = goes_on _

        by_spent : (b : Bool) → LooksSound fonts r.names (if b then Err (Spent, r) else with_next further r (next_line_of endline r.source.eye (line ∷ lines)))
        by_spent true = names_same r.names
        by_spent false = by_long (nat_lt 65535 (length line))

    seen_sound : (r : Looking) (it : Result EyeSight Stop) → ShowsSound it → LooksSound fonts r.names (by_seen endline further r (with_sight r.source.eye it))
    seen_sound r (Err stop) h = by_spent (is_spent r.budget)
      where
        by_spent : (b : Bool) → LooksSound fonts r.names (if b then Err (Spent, r) else Err (stop, r))
        by_spent true = names_same r.names
        by_spent false = names_same r.names
    seen_sound r (Ok it) h = at it.seen it.rest it.state h
      where
        at : (it : Seen) (rest : List ℕ) (state : EyeState) → IsSoundSeen it
            → LooksSound fonts r.names (by_seen endline further r (Ok (it, record { unread = r.source.eye.unread; rest = rest; state = state })))
        at (Char cat byte) rest state h = taken_sound (Char cat byte) _ r h
        at (Active byte) rest state h = taken_sound (Active byte) _ r h
        at (Word text) rest state h = taken_sound (Word text) _ r h
        at Par rest state h = taken_sound Par _ r h
        at LineEnd rest state h = end_sound _ r.source.eye.unread r.source.is_ending

  over_sound : (cats : List ℕ) → AllByRecursion (λ cat. cat < 16) cats → (unread : List (List ℕ)) (r : Looking) → LooksSound fonts r.names (sight_over cats endline unread r)
  unfolding sight_over
  over_sound cats each [] r =
      seen_sound (λ t. Ok (End, t)) (λ t. (names_same t.names, tt)) r (sight cats r.source.eye.state r.source.eye.rest) (sight_sound cats each r.source.eye.state r.source.eye.rest)
  over_sound cats each (line ∷ lines) r =
      seen_sound (sight_over cats endline lines) (λ t. over_sound cats each lines t) r (sight cats r.source.eye.state r.source.eye.rest) (sight_sound cats each r.source.eye.state r.source.eye.rest)

  source_sound : (cats : List ℕ) → AllByRecursion (λ cat. cat < 16) cats → (r : Looking) → LooksSound fonts r.names (next_sight cats endline r)
  unfolding next_sight
  source_sound cats each r = over_sound cats each r.source.eye.unread r

-- ---- from all that is pending

-- what comes next keeps the names, and what is pending behind it is sound
pub record IsRead (fonts : ℕ) (before : List (List ℕ)) (r : Reading) : Type 0 where
  pub names : KeepsNames before r.names
  pub pending : AllByRecursion (IsSoundItem (known_by r.names fonts)) r.pending

abbrev ReadsSound : ℕ → List (List ℕ) → Did Reading Event → Type 0
ReadsSound fonts names (Ok (e, r)) = IsRead fonts names r × IsSoundEvent (known_by r.names fonts) e
ReadsSound fonts names (Err (stop, r)) = IsRead fonts names r

module _ (fonts : ℕ) (endline : ℤ) (cats : List ℕ) (each : AllByRecursion (λ cat. cat < 16) cats) where
  grown_items : (old new : List (List ℕ)) (items : List Item) → KeepsNames old new → AllByRecursion (IsSoundItem (known_by old fonts)) items → AllByRecursion (IsSoundItem (known_by new fonts)) items
  grown_items old new items h g = items_grown (known_by old fonts) (known_by new fonts) (record { names = h.grow; fonts = omega arith }) items g

  paid_sound : (waiting : Waiting) (rest : List Item) (r : Reading) (b : Bool)
      → AllByRecursion (IsSoundItem (known_by r.names fonts)) r.pending → IsSoundToken (known_by r.names fonts) waiting.token → AllByRecursion (IsSoundItem (known_by r.names fonts)) rest
      → ReadsSound fonts r.names (by_paid waiting rest r b)
  paid_sound waiting rest r true all h g = (record { names = names_same r.names; pending = g }, h)
  paid_sound waiting rest r false all h g = by_spent (is_spent r.budget)
    where
      by_spent : (b : Bool) → ReadsSound fonts r.names (if b then Err (Spent, r) else Ok (event.Token waiting.token waiting.noexpand, reading rest r.names (after_step r.budget)))
      by_spent true = record { names = names_same r.names; pending = all }
      by_spent false = (record { names = names_same r.names; pending = g }, h)

  sighted_sound : (names : List (List ℕ)) (rest : List Item) → AllByRecursion (IsSoundItem (known_by names fonts)) rest → (d : Did Looking Sight) → LooksSound fonts names d
      → ReadsSound fonts names (by_sight rest d)
  sighted_sound names rest g (Ok (TokenSight t, l)) h = (record { names = h.0; pending = (tt, grown_items names l.names rest h.0 g) }, h.1)
  sighted_sound names rest g (Ok (EofSight, l)) h = (record { names = h.0; pending = (tt, grown_items names l.names rest h.0 g) }, tt)
  sighted_sound names rest g (Ok (End, l)) h = (record { names = h.0; pending = grown_items names l.names rest h.0 g }, tt)
  sighted_sound names rest g (Err (stop, l)) h = record { names = h; pending = (tt, grown_items names l.names rest h g) }

  event_sound : (items : List Item) (r : Reading) → AllByRecursion (IsSoundItem (known_by r.names fonts)) r.pending → AllByRecursion (IsSoundItem (known_by r.names fonts)) items
      → ReadsSound fonts r.names (event_of cats endline items r)
  event_sound [] r all h = (record { names = names_same r.names; pending = all }, tt)
  event_sound (Ready waiting ∷ rest) r all h = paid_sound waiting rest r waiting.paid all h.0 h.1
  event_sound (From source ∷ rest) r all h =
      sighted_sound r.names rest h.1 (next_sight cats endline (looking source r.names r.budget)) (source_sound fonts endline cats each (looking source r.names r.budget))

-- ---- in the state

read_kept : (s : State) → IsSound s → (r : Reading) → IsRead (known_of s).fonts s.names r → IsKept s (with_reading s r)
read_kept s h r g =
    let more : Grows (known_of s) (known_by r.names (known_of s).fonts) = record { names = g.names.grow; fonts = omega arith } in
    record {
      sound = record {
        pending = g.pending;
        copies = copies_grown (known_of s) (known_by r.names (known_of s).fonts) more s.copies h.copies;
        facts = facts_grown (known_of s) (known_by r.names (known_of s).fonts) more s.facts h.facts;
      };
      names = g.names;
      fonts = refl;
    }

in_state_kept : (s : State) → IsSound s → (d : Did Reading Event) → ReadsSound (known_of s).fonts s.names d → Keeps IsSoundEvent s (in_state s d)
in_state_kept s h (Ok (e, r)) g = (read_kept s h r g.0, g.1)
in_state_kept s h (Err (stop, r)) g = read_kept s h r g

shown_kept : (e : Event) (s : State) → IsSound s → IsSoundEvent (known_of s) e → Keeps IsSoundEvent s (with_end_shown (e, s))
shown_kept (event.Token t noexpand) s h g = (kept_itself s h, g)
shown_kept event.Eof s h g = (kept_itself s h, tt)
shown_kept (event.SourceEnd true) s h g = (
  record { sound = record { pending = h.pending; copies = h.copies; facts = h.facts }; names = names_same s.names; fonts = refl },
  tt,
)
shown_kept (event.SourceEnd false) s h g = (kept_itself s h, tt)
shown_kept event.Empty s h g = (kept_itself s h, tt)

pub event_kept : (s : State) → IsSound s → Keeps IsSoundEvent s (take_event s)
unfolding take_event next_event_of
event_kept s h =
    keeps_did IsSoundEvent IsSoundEvent s (next_event_of s) with_end_shown
    (in_state_kept s h (next_event (categories s.copies) (end_line s.copies) (reading_of s))
    (event_sound (known_of s).fonts (end_line s.copies) (categories s.copies) (categories_below (known_of s) s.copies h.copies) s.pending (reading_of s) h.pending h.pending))
    (λ e t k g. shown_kept e t k.sound g)
