-- What a world in memory knows whose calls fail where they were told to.
use Rattle.std.specs.Prelude.{◌≡◌, ℕ, ◌+◌, ◌≤◌, ◌==◌, ◌&&◌, ◌||◌, not, true, false, List, [], Bool, Option, Result, Ok, Err, Vec, refl}
use Rattle.std.specs.Coded.{Coded, code_by, coded×, coded_ℕ, coded_list}
use Rattle.std.specs.FinMap as tree
use Rattle.std.specs.List.{list_any}
use Rattle.std.specs.Option.{option_map}
use Rattle.world.specs.declared.counts.CallCounts.{CallCounts}
use Rattle.world.specs.declared.world.WorldError.{WorldError}
use Rattle.world.specs.declared.world.WorldError.TheVariants.{Failed, OutOfMemory}
use Rattle.world.specs.Told.{Told, told_code, empty_world, last_count, counted, after_fetch, with_file, with_added, with_shown}

-- what is told; the numbers of the calls, of the fetches and of the appends that are to fail, each
-- of the three numbered from 1; and how many calls there were
pub record Faulty : Type 0 where
  pub told : Told
  pub failing_calls : List ℕ
  pub failing_fetches : List ℕ
  pub failing_appends : List ℕ
  pub counts : CallCounts

-- both records are stored as the tuples of their fields
abbrev pub counts_code : Coded CallCounts
counts_code =
    code_by (ℕ × (ℕ × (ℕ × (ℕ × ℕ))))
    (coded× coded_ℕ (coded× coded_ℕ (coded× coded_ℕ (coded× coded_ℕ coded_ℕ))))
    (λ c. (c.calls, (c.fetches, (c.appends, (c.failed_fetches, c.failed_others)))))
    (λ p. record { calls = p.0; fetches = p.1.0; appends = p.1.1.0; failed_fetches = p.1.1.1.0; failed_others = p.1.1.1.1 })
    (λ _. refl)

abbrev pub faulty_code : Coded Faulty
faulty_code =
    code_by (Told × (List ℕ × (List ℕ × (List ℕ × CallCounts))))
    (coded× told_code (coded× (coded_list coded_ℕ) (coded× (coded_list coded_ℕ) (coded× (coded_list coded_ℕ) counts_code))))
    (λ w. (w.told, (w.failing_calls, (w.failing_fetches, (w.failing_appends, w.counts)))))
    (λ p. record { told = p.0; failing_calls = p.1.0; failing_fetches = p.1.1.0; failing_appends = p.1.1.1.0; counts = p.1.1.1.1 })
    (λ _. refl)

-- nothing was asked
abbrev pub no_calls : CallCounts
no_calls = record { calls = 0; fetches = 0; appends = 0; failed_fetches = 0; failed_others = 0 }

-- no files, nothing is to fail, and nothing was asked
abbrev pub empty_faulty : Faulty
empty_faulty = record { told = empty_world; failing_calls = []; failing_fetches = []; failing_appends = []; counts = no_calls }

-- the number after this one is among these. Past the last number there is none
abbrev pub is_next : List ℕ → ℕ → Bool
is_next numbers before = not (before == last_count) && list_any (λ n. n == before + 1) numbers

-- the call that comes now has a number. One that has none doesn't fail
abbrev pub has_number : CallCounts → Bool
has_number c = not (c.calls == last_count)

-- the call that comes now is to fail: where it is no fetch and no append, a fetch, an append
abbrev pub call_fails : Faulty → Bool
call_fails w = is_next w.failing_calls w.counts.calls

abbrev pub fetch_fails : Faulty → Bool
fetch_fails w = has_number w.counts && (is_next w.failing_calls w.counts.calls || is_next w.failing_fetches w.counts.fetches)

abbrev pub append_fails : Faulty → Bool
append_fails w = has_number w.counts && (is_next w.failing_calls w.counts.calls || is_next w.failing_appends w.counts.appends)

-- the counts after one more call: of these three kinds
abbrev pub after_call : CallCounts → CallCounts
after_call c = record c { calls = counted c.calls }

abbrev pub after_fetching : CallCounts → CallCounts
after_fetching c = record c { calls = counted c.calls; fetches = counted c.fetches }

abbrev pub after_appending : CallCounts → CallCounts
after_appending c = record c { calls = counted c.calls; appends = counted c.appends }

-- the same where the call failed
abbrev pub with_failed_fetch : CallCounts → CallCounts
with_failed_fetch c = record c { failed_fetches = c.failed_fetches + 1 }

abbrev pub with_failed_other : CallCounts → CallCounts
with_failed_other c = record c { failed_others = c.failed_others + 1 }

-- no more calls failed than there were
abbrev pub AreWithin : CallCounts → Type 0
AreWithin c = (c.failed_fetches ≤ c.calls) × (c.failed_others ≤ c.calls)

-- the world after a call: what it tells then, and its counts
abbrev pub after : Faulty → Told → CallCounts → Faulty
after w t c = record w { told = t; counts = c }

-- a fetch fails exactly where it is to
abbrev pub FaultyFetches : {Z : Type 0} → List ℕ → Result (Option (Vec ℕ Z)) WorldError → Faulty → Faulty → Type 0
FaultyFetches name (Ok found) w v =
    (fetch_fails w ≡ false)
    × (option_map (λ b. b.items) found ≡ tree.get w.told.files name)
    × (v ≡ after w (after_fetch w.told) (after_fetching w.counts))
FaultyFetches name (Err Failed) w v = (fetch_fails w ≡ true) × (v ≡ after w (after_fetch w.told) (with_failed_fetch (after_fetching w.counts)))
FaultyFetches name (Err OutOfMemory) w v = (fetch_fails w ≡ false) × (v ≡ after w w.told (after_fetching w.counts))

-- a name is created where the call isn't to fail. A refused call leaves what is told as it was
abbrev pub FaultyCreates : List ℕ → Result (Unit {0}) WorldError → Faulty → Faulty → Type 0
FaultyCreates name (Ok _) w v = (call_fails w ≡ false) × (v ≡ after w (with_file name [] w.told) (after_call w.counts))
FaultyCreates name (Err Failed) w v = (call_fails w ≡ true) × (v ≡ after w w.told (with_failed_other (after_call w.counts)))
FaultyCreates name (Err OutOfMemory) w v = (call_fails w ≡ false) × (v ≡ after w w.told (after_call w.counts))

-- so with an append, which adds nothing where it is refused
abbrev pub FaultyAppends : List ℕ → List ℕ → Result (Unit {0}) WorldError → Faulty → Faulty → Type 0
FaultyAppends name bytes (Ok _) w v = (append_fails w ≡ false) × (v ≡ after w (with_added name bytes w.told) (after_appending w.counts))
FaultyAppends name bytes (Err Failed) w v = (append_fails w ≡ true) × (v ≡ after w w.told (with_failed_other (after_appending w.counts)))
FaultyAppends name bytes (Err OutOfMemory) w v = (append_fails w ≡ false) × (v ≡ after w w.told (after_appending w.counts))

-- so with bytes that are to be shown
abbrev pub FaultyShows : List ℕ → Result (Unit {0}) WorldError → Faulty → Faulty → Type 0
FaultyShows bytes (Ok _) w v = (call_fails w ≡ false) × (v ≡ after w (with_shown bytes w.told) (after_call w.counts))
FaultyShows bytes (Err Failed) w v = (call_fails w ≡ true) × (v ≡ after w w.told (with_failed_other (after_call w.counts)))
FaultyShows bytes (Err OutOfMemory) w v = (call_fails w ≡ false) × (v ≡ after w w.told (after_call w.counts))
