-- What a world that only shows and fetches told since the start.
use Rattle.std.proofs.Common.{◌≡◌, ℕ, List, ◌++◌, length, take, drop, Option, Some, None, Result, Ok, Err, refl, ap, sym, ◌∙◌, append_assoc}
use Rattle.std.specs.Prelude.{is_some}
use Rattle.std.proofs.lemmas.List.{drop_at}
use Rattle.world.specs.Told.{Told, with_shown}
use Rattle.world.specs.Calls.{Shows, Rises, Counts}
use Rattle.world.specs.declared.world.WorldError.{WorldError}
use Rattle.world.specs.declared.world.WorldError.TheVariants.{Failed, OutOfMemory}
use Rattle.asking.specs.Asked.{prefix_part}
use Rattle.asking.specs.Known.{counted_more, outside_of, after_all, IsKnown, place_since, seen_of}
use Rattle.asking.specs.Library.{showing, IsPart, ShowsBeside}
use Rattle.asking.specs.Meaning.{Place}
use Rattle.asking.specs.Seen.{Told as WhereTells, Rose, is_prefix}

-- what stands behind the start, where more is shown
shown_more : (t u v : Told) (asked : ℕ) (x : List ℕ) → u ≡ after_all asked (drop (length t.terminal) u.terminal) t → v ≡ with_shown x u
    → v.terminal ≡ t.terminal ++ (drop (length t.terminal) u.terminal ++ x)
shown_more t u v asked x h e =
    ap (λ (w : Told). w.terminal) e
    ∙ ap (λ (w : Told). w.terminal ++ x) h
    ∙ append_assoc t.terminal (drop (length t.terminal) u.terminal) x

since_more : (t u v : Told) (asked : ℕ) (x : List ℕ) → u ≡ after_all asked (drop (length t.terminal) u.terminal) t → v ≡ with_shown x u
    → drop (length t.terminal) v.terminal ≡ drop (length t.terminal) u.terminal ++ x
since_more t u v asked x h e =
    ap (λ (text : List ℕ). drop (length t.terminal) text) (shown_more t u v asked x h e)
    ∙ drop_at t.terminal (drop (length t.terminal) u.terminal ++ x) (length t.terminal) refl

-- still known where more is shown
known_more : (t u v : Told) (asked : ℕ) (x : List ℕ) → u ≡ after_all asked (drop (length t.terminal) u.terminal) t → v ≡ with_shown x u
    → v ≡ after_all asked (drop (length t.terminal) v.terminal) t
known_more t u v asked x h e =
    let shown = since_more t u v asked x h e in
    e ∙ ap (λ (w : Told). with_shown x w) h
    ∙ ap (λ (text : List ℕ). let w : Told = record { files = t.files; terminal = text; fetched = counted_more asked t.fetched } in w)
    (append_assoc t.terminal (drop (length t.terminal) u.terminal) x ∙ ap (λ (text : List ℕ). t.terminal ++ text) (sym shown))

pub show_known : (start a b : Option Told) (asked : ℕ) (text : List ℕ) (result : Result (Unit {0}) WorldError) → IsKnown start a asked → Shows text result a b → IsKnown start b asked
show_known None None None asked text result h s = tt
show_known None None (Some v) asked text result h s = absurd s
show_known None (Some u) b asked text result h s = absurd h
show_known (Some t) None b asked text result h s = absurd h
show_known (Some t) (Some u) None asked text result h s = absurd s
show_known (Some t) (Some u) (Some v) asked text (Ok done) h s = known_more t u v asked text h s
show_known (Some t) (Some u) (Some v) asked text (Err e) h s = known_more t u v asked (take s.0 text) h s.1

pub show_all : (start a b : Option Told) (asked : ℕ) (text : List ℕ) → IsKnown start a asked → Shows text (Ok tt) a b
    → WhereTells (outside_of start) (place_since start b asked ≡ showing text (place_since start a asked))
show_all None a b asked text h s = tt
show_all (Some t) None b asked text h s = absurd h
show_all (Some t) (Some u) None asked text h s = absurd s
show_all (Some t) (Some u) (Some v) asked text h s =
    ap (λ (shown : List ℕ). let p : Place = record { asked = asked; shown = shown } in p) (since_more t u v asked text h s)

pub show_part : (start a b : Option Told) (asked : ℕ) (text : List ℕ) (e : WorldError) → IsKnown start a asked → Shows text (Err e) a b
    → WhereTells (outside_of start) (IsPart text (place_since start a asked) (place_since start b asked))
show_part None a b asked text e h s = tt
show_part (Some t) None b asked text e h s = absurd h
show_part (Some t) (Some u) None asked text e h s = absurd s
show_part (Some t) (Some u) (Some v) asked text e h s = (
  ap (λ (shown : List ℕ). is_prefix shown (drop (length t.terminal) u.terminal ++ text)) (since_more t u v asked (take s.0 text) h s.1)
      ∙ prefix_part (drop (length t.terminal) u.terminal) text s.0,
  refl,
)

-- a count that rises
pub rises_rose : (start a : Option Told) (asked before now : ℕ) → IsKnown start a asked → Rises a before now → Rose (is_some start) before now
rises_rose None None asked before now h r = r
rises_rose None (Some u) asked before now h r = absurd h
rises_rose (Some t) None asked before now h r = absurd h
rises_rose (Some t) (Some u) asked before now h r = r

pub show_beside : (start a b : Option Told) (asked : ℕ) (text : List ℕ) (result : Result (Unit {0}) WorldError) (reads reads' writes writes' which which' : ℕ)
    → IsKnown start a asked → Shows text result a b → which' ≡ which → reads' ≡ reads → Counts a result writes writes'
    → ShowsBeside (outside_of start) text (seen_of start a asked reads writes which) (seen_of start b asked reads' writes' which') result
show_beside start a b asked text (Ok done) reads reads' writes writes' which which' h s w r c = ((w, r, c), show_all start a b asked text h s)
show_beside start a b asked text (Err Failed) reads reads' writes writes' which which' h s w r c =
    ((w, r, rises_rose start a asked writes writes' h c), show_part start a b asked text Failed h s)
show_beside start a b asked text (Err OutOfMemory) reads reads' writes writes' which which' h s w r c =
    ((w, r, c), show_part start a b asked text OutOfMemory h s)
