-- A scan keeps of a text what decides where the whole list ends it.
use Rattle.std.specs.Prelude.{◌≡◌, ℕ, ◌+◌, ◌-◌, ◌==◌, ◌<◌, ◌≤◌, ◌^◌, Bool, true, false, List, [], ◌∷◌, ◌++◌, length, map, Option, Some, None, min, if◌then◌else◌, refl}
use Rattle.std.proofs.Common.{zero, suc, arith, sym, ap, subst, ◌∙◌, append_assoc, length-append}
use Rattle.tokens.specs.declared.meaning.Meaning.{Meaning}
use Rattle.conditionals.specs.declared.skip.Skip.{Skip}
use Rattle.conditionals.specs.declared.skip.Skip.TheVariants.{Go, Stopped}
use Rattle.conditionals.specs.declared.word.Word.{Word}
use Rattle.conditionals.specs.declared.word.Word.TheVariants.{Opener, Or, Else, Fi, Other}
use Rattle.conditionals.specs.Word.{word_of}
use Rattle.conditionals.specs.Branches.{Item, Parting, Turning, Plain, width, item_width, Texts, opened, with_word, texts, Stopping, behind, stop_in, stop_around, stop_among, stop_of}
use Rattle.conditionals.specs.Skipping.{Skipping, stop_from, StandsFor, Tells, TellsWord}

behind-behind : (a b c : ℕ) (stop : Option Stopping) → c ≡ a + b → behind a (behind b stop) ≡ behind c stop
behind-behind a b c None e = refl
behind-behind a b c (Some stop) e =
    ap (λ n. let found : Option Stopping = Some (record { taken = n; word = stop.word }) in found) (omega arith)

-- what an answer says of the place where the text ends, seen from in front of the token
abbrev pub Stepped : Option Stopping → Skip → Skipping → Texts → Type 0
Stepped found Go scan parts = found ≡ behind 1 (stop_among scan.inner scan.sought parts)
Stepped found (Stopped word) scan parts = found ≡ Some (record { taken = 1; word = word })

abbrev pub scan_of : ℕ → ℕ → Skipping
scan_of inner sought = record { inner = inner; sought = sought }

-- the answer to one more token, and what is kept then, for each word
abbrev pub at_fi : ℕ → ℕ → Skip × Skipping
at_fi zero sought = (Stopped 0, scan_of 0 sought)
at_fi (suc inner) sought = (Go, scan_of inner sought)

abbrev pub at_else : ℕ → ℕ → Skip × Skipping
at_else zero sought = (Stopped 1, scan_of 0 sought)
at_else (suc inner) sought = (Go, scan_of (suc inner) sought)

abbrev pub at_or : ℕ → ℕ → Skip × Skipping
at_or zero sought = if sought == 1 then (Stopped 2, scan_of 0 sought) else (Go, scan_of 0 (sought - 1))
at_or (suc inner) sought = (Go, scan_of (suc inner) sought)

abbrev pub after_word : Word → Skipping → Skip × Skipping
after_word Opener scan = (Go, scan_of (min (scan.inner + 1) 18446744073709551615) scan.sought)
after_word Or scan = at_or scan.inner scan.sought
after_word Else scan = at_else scan.inner scan.sought
after_word Fi scan = at_fi scan.inner scan.sought
after_word Other scan = (Go, scan)

abbrev pub SteppedTo : Option Stopping → Skip × Skipping → Texts → Type 0
SteppedTo found answer parts = Stepped found answer.0 answer.1 parts

-- an item in front of the first text, where that is the text of an inner condition
onto-inner : (item : Item) (inner sought : ℕ) (first : List Item) (outer : List (List Item)) → item_width item ≡ 1
    → stop_around (suc inner) sought (item ∷ first) outer ≡ behind 1 (stop_around (suc inner) sought first outer)
onto-inner item inner sought first [] one = refl
onto-inner item inner sought first (around ∷ outer) one =
    sym (behind-behind 1 (width first + 1) (item_width item + width first + 1) (stop_around inner sought around outer) (omega arith))

opened-step : (inner sought : ℕ) (first : List Item) (outer : List (List Item))
    → stop_among inner sought (opened first outer) ≡ behind 1 (stop_around (suc inner) sought first outer)
opened-step zero sought first [] = refl
opened-step zero sought first (around ∷ outer) =
    sym (behind-behind 1 (width first + 1) (width first + 2) (stop_in sought around outer) (omega arith))
opened-step (suc inner) sought first [] = refl
opened-step (suc inner) sought first (around ∷ []) = refl
opened-step (suc inner) sought first (around ∷ text ∷ outer) =
    let rest : Option Stopping = stop_around inner sought text outer in
    sym (
    ap (behind 1) (behind-behind (width first + 1) (width around + 1) (width first + 1 + (width around + 1)) rest refl)
    ∙ behind-behind 1 (width first + 1 + (width around + 1)) (width first + 2 + width around + 1) rest (omega arith)
    )

parted-step : (b : Bool) (sought : ℕ) (first : List Item) (outer : List (List Item))
    → SteppedTo (if b then Some (record { taken = 1; word = 2 }) else behind 1 (stop_in (sought - 1) first outer))
    (if b then (Stopped 2, scan_of 0 sought) else (Go, scan_of 0 (sought - 1))) (record { first = first; outer = outer })
parted-step true sought first outer = refl
parted-step false sought first outer = refl

-- one more token in front of what is to come
word-step : (word : Word) (inner sought : ℕ) (parts : Texts) → inner < 18446744073709551615
    → SteppedTo (stop_among inner sought (with_word word parts)) (after_word word (scan_of inner sought)) parts
word-step Opener inner sought parts small =
    let P : ℕ → Type 0 = λ n. stop_among inner sought (with_word Opener parts) ≡ behind 1 (stop_around n sought parts.first parts.outer) in
    let e : suc inner ≡ min (inner + 1) 18446744073709551615 = omega arith in
    subst P e (opened-step inner sought parts.first parts.outer)
word-step Or zero sought parts small = parted-step (sought == 1) sought parts.first parts.outer
word-step Or (suc inner) sought parts small = onto-inner Parting inner sought parts.first parts.outer refl
word-step Else zero sought parts small = refl
word-step Else (suc inner) sought parts small = onto-inner Turning inner sought parts.first parts.outer refl
word-step Fi zero sought parts small = refl
word-step Fi (suc inner) sought parts small = refl
word-step Other zero sought parts small = refl
word-step Other (suc inner) sought parts small = onto-inner Plain inner sought parts.first parts.outer refl

parted-within : (b : Bool) (sought : ℕ)
    → (let answer : Skip × Skipping = if b then (Stopped 2, scan_of 0 sought) else (Go, scan_of 0 (sought - 1)) in answer.1.inner ≤ 1)
parted-within true sought = omega arith
parted-within false sought = omega arith

within_by_word : (word : Word) (inner sought : ℕ) → (after_word word (scan_of inner sought)).1.inner ≤ inner + 1
within_by_word Opener inner sought = omega arith
within_by_word Or zero sought = parted-within (sought == 1) sought
within_by_word Or (suc inner) sought = omega arith
within_by_word Else zero sought = omega arith
within_by_word Else (suc inner) sought = omega arith
within_by_word Fi zero sought = omega arith
within_by_word Fi (suc inner) sought = omega arith
within_by_word Other inner sought = omega arith

-- what the code does at a word tells what the word is to the text
stepped_tells : (word : Word) (before : Skipping) (answer : Skip × Skipping)
    → ((parts : Texts) → SteppedTo (stop_among before.inner before.sought (with_word word parts)) answer parts)
    → TellsWord word before answer.0 answer.1
unfolding TellsWord
stepped_tells word before (Go, after) steps = λ more. steps (texts (map word_of more))
stepped_tells word before (Stopped number, after) steps = λ more. steps (texts (map word_of more))

pub word_tells : (word : Word) (before : Skipping) (skip : Skip) (after : Skipping) → before.inner + 1 < 2 ^ 64
    → after_word word before ≡ (skip, after) → TellsWord word before skip after
word_tells word before skip after small answered =
    let T : Skip × Skipping → Type 0 = λ answer. TellsWord word before answer.0 answer.1 in
    subst T answered (stepped_tells word before (after_word word before) (λ parts. word-step word before.inner before.sought parts (omega arith)))

pub word_within : (word : Word) (before : Skipping) (skip : Skip) (after : Skipping)
    → after_word word before ≡ (skip, after) → after.inner ≤ before.inner + 1
word_within word before skip after answered =
    let W : Skip × Skipping → Type 0 = λ answer. answer.1.inner ≤ before.inner + 1 in
    subst W answered (within_by_word word before.inner before.sought)

-- nothing to come ends nothing
stop_from-nothing : (inner sought : ℕ) → stop_around inner sought [] [] ≡ None
stop_from-nothing zero sought = refl
stop_from-nothing (suc inner) sought = refl

appended-nothing : (xs : List Meaning) → xs ++ [] ≡ xs
appended-nothing [] = refl
appended-nothing (x ∷ xs) = ap (λ ys. x ∷ ys) (appended-nothing xs)

told : (sought : ℕ) (taken : List Meaning) (meaning : Meaning) (old new : Skipping) (skip : Skip)
    → StandsFor sought taken old
    → TellsWord (word_of meaning) old skip new
    → new.inner ≤ old.inner + 1
    → Tells sought (taken ++ meaning ∷ []) skip new
unfolding TellsWord
told sought taken meaning old new Go stands steps within =
    let all : List Meaning = taken ++ meaning ∷ [] in
    let long : length all ≡ length taken + 1 = length-append taken (meaning ∷ []) in
    let follows : (more : List Meaning) → stop_of sought (all ++ more) ≡ behind (length all) (stop_from new more) =
    λ more.
    ap (stop_of sought) (append_assoc taken (meaning ∷ []) more)
    ∙ stands.follows (meaning ∷ more)
    ∙ ap (behind (length taken)) (steps more)
    ∙ behind-behind (length taken) 1 (length all) (stop_from new more) long
    in
    record {
      goes_on = ap (stop_of sought) (sym (appended-nothing all)) ∙ follows [] ∙ ap (behind (length all)) (stop_from-nothing new.inner new.sought);
      follows = follows;
      within = omega (arith, stands.within);
    }
told sought taken meaning old new (Stopped word) stands steps within = λ more.
    let all : List Meaning = taken ++ meaning ∷ [] in
    let long : length taken + 1 ≡ length all = sym (length-append taken (meaning ∷ [])) in
    ap (stop_of sought) (append_assoc taken (meaning ∷ []) more)
    ∙ stands.follows (meaning ∷ more)
    ∙ ap (behind (length taken)) (steps more)
    ∙ ap (λ n. let found : Option Stopping = Some (record { taken = n; word = word }) in found) long

-- a scan's answer to one more token tells what the whole list says
pub scan-tells : (sought : ℕ) (taken : List Meaning) (meaning : Meaning) (old new : Skipping) (skip : Skip)
    → length taken + 1 < 2 ^ 64 → StandsFor sought taken old
    → (old.inner + 1 < 2 ^ 64 → TellsWord (word_of meaning) old skip new) → new.inner ≤ old.inner + 1
    → Tells sought (taken ++ meaning ∷ []) skip new
scan-tells sought taken meaning old new skip short stands tells within =
    told sought taken meaning old new skip stands (tells (omega (arith, stands.within))) within

-- a new scan stands for nothing taken
pub scan-new : (sought : ℕ) → StandsFor sought [] (scan_of 0 sought)
scan-new sought = record {
  goes_on = refl;
  follows = λ more. sym (nothing_in_front (stop_of sought more));
  within = omega arith;
}
  where
    nothing_in_front : (stop : Option Stopping) → behind 0 stop ≡ stop
    nothing_in_front None = refl
    nothing_in_front (Some stop) =
        ap (λ n. let found : Option Stopping = Some (record { taken = n; word = stop.word }) in found) (omega arith)
