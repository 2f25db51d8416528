-- What a world may tell of itself: its files, its terminal and how often it was asked. The calls of
-- a world are functions of this record.
use Rattle.std.specs.Prelude.{◌≡◌, ℕ, ◌+◌, ◌-◌, ◌^◌, ◌==◌, if◌then◌else◌, List, [], ◌++◌, length, take, unwrap_or, refl}
use Rattle.std.proofs.Common.{ap, sym, ◌∙◌, append_assoc}
use Rattle.std.proofs.Math.Seq.{take-append-add}
use Rattle.std.specs.Coded.{Coded, code_by, coded×, coded_ℕ, coded_list}
use Rattle.std.specs.Ordering.{nat_cmp}
use Rattle.std.specs.Cmp.Lexicographic.{slice_cmp}
use Rattle.std.specs.FinMap as tree

-- names with the bytes that they stand for, in the order of bytes
abbrev pub Files : Type 0
Files = tree.FinMap (slice_cmp nat_cmp) (List ℕ)

-- the files, what the terminal has shown, and how many fetches answered anything but want of memory
pub record Told : Type 0 where
  pub files : Files
  pub terminal : List ℕ
  pub fetched : ℕ

-- a record of a told world is stored as the tuple of its fields
abbrev pub told_code : Coded Told
told_code =
    code_by (Files × (List ℕ × ℕ))
    (coded× (tree.code (coded_list coded_ℕ) (coded_list coded_ℕ)) (coded× (coded_list coded_ℕ) coded_ℕ))
    (λ t. (t.files, (t.terminal, t.fetched)))
    (λ p. record { files = p.0; terminal = p.1.0; fetched = p.1.1 })
    (λ _. refl)

-- the value at which counters stop
abbrev pub last_count : ℕ
last_count = 2 ^ 64 - 1

-- a counter after one more call
abbrev pub counted : ℕ → ℕ
counted n = (if n == last_count then n else n + 1)

-- nothing shown, no files, nothing fetched
abbrev pub empty_world : Told
empty_world = record { files = tree.empty; terminal = []; fetched = 0 }

-- the bytes that a name stands for, none where it is absent
abbrev pub contents : Told → List ℕ → List ℕ
contents t name = unwrap_or (tree.get t.files name) []

-- one more fetch
abbrev pub after_fetch : Told → Told
after_fetch t = record t { fetched = counted t.fetched }

-- the name stands for these bytes
abbrev pub with_file : List ℕ → List ℕ → Told → Told
with_file name bytes t = record t { files = tree.insert t.files name bytes }

-- these bytes stand behind what the name stood for
abbrev pub with_added : List ℕ → List ℕ → Told → Told
with_added name bytes t = with_file name (contents t name ++ bytes) t

-- these bytes stand behind what the terminal had shown
abbrev pub with_shown : List ℕ → Told → Told
with_shown bytes t = record t { terminal = t.terminal ++ bytes }

-- the names in the order of bytes, so that the one at place n has exactly n names before it
abbrev pub names : Told → List (List ℕ)
names t = tree.keys t.files

-- ---- laws

-- bytes shown in two portions are shown as if at once
pub with_shown-append : (xs ys : List ℕ) (t : Told) → with_shown ys (with_shown xs t) ≡ with_shown (xs ++ ys) t
with_shown-append xs ys t = ap (λ (terminal : List ℕ). record t { terminal = terminal }) (append_assoc t.terminal xs ys)

-- a first part of the second portion is a first part of the whole
pub with_shown-part : (xs ys : List ℕ) (n : ℕ) (t : Told) → with_shown (take n ys) (with_shown xs t) ≡ with_shown (take (length xs + n) (xs ++ ys)) t
with_shown-part xs ys n t =
    with_shown-append xs (take n ys) t
    ∙ ap (λ (bytes : List ℕ). with_shown bytes t) (sym (take-append-add xs ys n))
