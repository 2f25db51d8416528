-- Phrases that stand on a stack, the innermost first. What is said here is that a turn of the innermost one leaves what
-- finishing all of them comes to; so finishing them turn by turn comes to what the recursion gives.
use Rattle.std.specs.Prelude.{◌≡◌, refl, ℕ, ◌+◌, ◌≤◌, ◌<◌, Bool, true, false, List, [], ◌∷◌, ◌++◌, Result, Ok, Err, if◌then◌else◌}
use Rattle.std.proofs.Common.{zero, suc, ap, sym, ◌∙◌, subst, append_assoc, append-nil, arith}
use Rattle.tokens.specs.declared.stop.Stop.{Stop}
use Rattle.tokens.specs.declared.stop.Stop.TheVariants.{Trouble, Capacity, Spent, ReadFault, WriteFault, OutOfMemory}
use Rattle.asking.specs.Did.{Did}
use Rattle.asking.specs.Asked.{walk_two, walk_none}
use Rattle.asking.specs.Meaning.{Meant, Meaning, Place, Ask, walk, still, ◌>>=◌, followed, asks_after, ends_after}
use Rattle.asking.specs.Seen.{Outside, Seen, DoesBeside}
use Rattle.asking.specs.Leads.{does_then, does_end, does_still}
use Rattle.phrases.specs.Phrases.{Found, More, Again, Inner, Aside, Ends, Rules, Further, begun, after, gives, Waiting, with_told, finish, finish_all}

-- ---- one thing after another, however they are taken together

abbrev meaning_of : {S C : Type 0} → List (Ask S) → Did S C → Meaning S C
meaning_of asks ends = record { asks = asks; ends = ends }

-- a meaning with another end
abbrev first_of : {S A B : Type 0} → List (Ask S) → (A × S → Meant S B) → Place → Did S A → Meaning S B
first_of asks f place ends = record { asks = asks ++ asks_after ends f (walk asks place); ends = ends_after ends f (walk asks place) }

three : {S A B C : Type 0} (f : A × S → Meant S B) (g : B × S → Meant S C) (asks : List (Ask S)) (place : Place) (ends : Did S A)
    → followed (first_of asks f place ends) g place ≡ first_of asks (λ t. f t >>= g) place ends
three {S} {A} {B} {C} f g asks place (Ok t) =
    let here : Place = walk asks place in
    let second : Meaning S B = f t here in
    let along : walk (asks ++ second.asks) place ≡ walk second.asks here = walk_two asks second.asks place in
    ap (λ (p : Place). meaning_of ((asks ++ second.asks) ++ asks_after second.ends g p) (ends_after second.ends g p)) along
    ∙ ap (λ (all : List (Ask S)). meaning_of all (ends_after second.ends g (walk second.asks here)))
    (append_assoc asks second.asks (asks_after second.ends g (walk second.asks here)))
three {S} {A} {B} {C} f g asks place (Err e) =
    let P : List (Ask S) → Meaning S C = λ all. meaning_of all (Err e) in ap P (append_assoc asks [] [])

in_three : {S A B C : Type 0} (f : A × S → Meant S B) (g : B × S → Meant S C) (m : Meaning S A) (place : Place)
    → followed (followed m f place) g place ≡ followed m (λ t. f t >>= g) place
in_three f g m place = three f g m.asks place m.ends

-- what is said of a meaning is said of one that is the same at the place where it begins
does_same : {S A : Type 0} (o : Outside) (old new : Seen) (m n : Meant S A) (result : Result A Stop) (t : S)
    → m old.place ≡ n old.place → DoesBeside o old new result t m → DoesBeside o old new result t n
does_same {S} {A} o old new m n (Ok v) t same h =
    let P : Meaning S A → Type 0 = λ x. DoesBeside o old new (Ok v) t (λ p. x) in subst P same h
does_same {S} {A} o old new m n (Err (Trouble kind)) t same h =
    let P : Meaning S A → Type 0 = λ x. DoesBeside {A = A} o old new (Err (Trouble kind)) t (λ p. x) in subst P same h
does_same {S} {A} o old new m n (Err (Capacity cap)) t same h =
    let P : Meaning S A → Type 0 = λ x. DoesBeside {A = A} o old new (Err (Capacity cap)) t (λ p. x) in subst P same h
does_same {S} {A} o old new m n (Err Spent) t same h =
    let P : Meaning S A → Type 0 = λ x. DoesBeside {A = A} o old new (Err Spent) t (λ p. x) in subst P same h
does_same {S} {A} o old new m n (Err ReadFault) t same h =
    let P : Meaning S A → Type 0 = λ x. DoesBeside {A = A} o old new (Err ReadFault) t (λ p. x) in subst P same h
does_same {S} {A} o old new m n (Err WriteFault) t same h =
    let P : Meaning S A → Type 0 = λ x. DoesBeside {A = A} o old new (Err WriteFault) t (λ p. x) in subst P same h
does_same {S} {A} o old new m n (Err OutOfMemory) t same h =
    let P : Meaning S A → Type 0 = λ x. DoesBeside {A = A} o old new (Err OutOfMemory) t (λ p. x) in subst P same h

does_grouped : {S A B D : Type 0} (o : Outside) (old new : Seen) (m : Meant S A) (f : A × S → Meant S B) (g : B × S → Meant S D) (result : Result D Stop) (t : S)
    → DoesBeside o old new result t (m >>= (λ x. f x >>= g)) → DoesBeside o old new result t ((m >>= f) >>= g)
does_grouped o old new m f g result t h =
    does_same o old new (m >>= (λ x. f x >>= g)) ((m >>= f) >>= g) result t (sym (in_three f g (m old.place) old.place)) h

does_behind_still : {S A B : Type 0} (o : Outside) (old new : Seen) (value : A) (s : S) (f : A × S → Meant S B) (result : Result B Stop) (t : S)
    → DoesBeside o old new result t (f (value, s)) → DoesBeside o old new result t (still (Ok (value, s)) >>= f)
does_behind_still {S} {A} o old new value s f result t h =
    does_same o old new (f (value, s)) (still (Ok (value, s)) >>= f) result t
    (sym (ap (λ (p : Place). f (value, s) p) (walk_none S old.place))) h

-- ---- a turn

-- so many turns are left for each phrase that waits
abbrev pub HaveTurns : {C K X : Type 0} → ℕ → List (Waiting C K X) → Type 0
HaveTurns left [] = Unit {0}
HaveTurns left (w ∷ around) = (left ≤ w.turns) × HaveTurns left around

-- an innermost phrase and those around it: what finishing all of them from here comes to is what the whole comes to from
-- the start
pub record Unwinds {S C K X Y : Type 0} (r : Rules S C K X Y) (o : Outside) (old now : Seen) (whole : Meant S Y) (left : ℕ)
    (around : List (Waiting C K X)) (turns : ℕ) (c : C) (k : K) (xs : List X) (s : S) : Type 0 where
  pub enough : left ≤ turns
  pub around_enough : HaveTurns left around
  pub from : (new : Seen) (result : Result Y Stop) (t : S) → DoesBeside o now new result t (finish_all r around turns c k xs s)
      → DoesBeside o old new result t whole

fewer : {C K X : Type 0} (left : ℕ) (around : List (Waiting C K X)) → HaveTurns (suc left) around → HaveTurns left around
fewer left [] h = tt
fewer left (w ∷ around) h = (omega (arith, h.0), fewer left around h.1)

-- nothing more is done behind it
followed_by_nothing : {S Y : Type 0} (m : Meaning S Y) (place : Place) → followed m (λ t. still (Ok t)) place ≡ m
followed_by_nothing {S} {Y} m place = at m.ends
  where
    at : (ends : Did S Y)
        → (let both : Meaning S Y = record {
          asks = m.asks ++ asks_after {B = Y} ends (λ t. still (Ok t)) (walk m.asks place);
          ends = ends_after {B = Y} ends (λ t. still (Ok t)) (walk m.asks place);
        } in both)
        ≡ (let one : Meaning S Y = record { asks = m.asks; ends = ends } in one)
    at (Ok t) = ap (λ (asks : List (Ask S)). let one : Meaning S Y = record { asks = asks; ends = Ok t } in one) (append-nil m.asks)
    at (Err e) = ap (λ (asks : List (Ask S)). let one : Meaning S Y = record { asks = asks; ends = Err e } in one) (append-nil m.asks)

-- what finishing comes to where a turn is left, by what the turn found
behind_turn : {S C K X Y : Type 0} (r : Rules S C K X Y) (o : Outside) (now mid : Seen) (around : List (Waiting C K X)) (c : C) (k : K) (xs : List X) (s : S)
    (found : Found K X Y) (u : S) (more : ℕ) → DoesBeside o now mid (Ok found) u (r.turn c k xs s)
    → (new : Seen) (result : Result Y Stop) (t : S)
    → DoesBeside o mid new result t (after r (gives r more) c k xs (found, u) >>= finish r around)
    → DoesBeside o now new result t (finish_all r around (suc more) c k xs s)
unfolding gives
behind_turn r o now mid around c k xs s found u more h new result t g =
    does_grouped o now new (r.turn c k xs s) (after r (gives r more) c k xs) (finish r around) result t
    (does_then o now mid (r.turn c k xs s) (λ x. after r (gives r more) c k xs x >>= finish r around) new found u t result h g)

module _ {S C K X Y : Type 0} {r : Rules S C K X Y} {o : Outside} {old : Seen} {whole : Meant S Y} where
  -- a phrase begins, and nothing is around it
  pub unwinds_start : (turns : ℕ) (c : C) (k : K) (xs : List X) (s : S) → whole ≡ gives r turns c k xs s
      → Unwinds r o old old whole turns [] turns c k xs s
  unfolding finish
  unwinds_start turns c k xs s is = record {
    enough = omega arith;
    around_enough = tt;
    from = λ new result t h.
        does_same o old new (finish_all r [] turns c k xs s) whole result t
        (followed_by_nothing (gives r turns c k xs s old.place) old.place ∙ sym (ap (λ (m : Meant S Y). m old.place) is)) h;
  }

  module _ {now : Seen} {left turns : ℕ} {around : List (Waiting C K X)} {c : C} {k : K} {xs : List X} {s : S} where
    -- an end of the run in a turn is the end of all
    pub unwinds_end : (new : Seen) (stop : Stop) (t : S) → Unwinds r o old now whole (suc left) around turns c k xs s
        → DoesBeside {A = Found K X Y} o now new (Err stop) t (r.turn c k xs s) → DoesBeside {A = Y} o old new (Err stop) t whole
    unfolding gives
    unwinds_end new stop t u h = at turns u.enough (λ g. u.from new (Err stop) t g)
      where
        at : (turns : ℕ) → suc left ≤ turns
            → (DoesBeside {A = Y} o now new (Err stop) t (finish_all r around turns c k xs s) → DoesBeside {A = Y} o old new (Err stop) t whole)
            → DoesBeside {A = Y} o old new (Err stop) t whole
        at zero enough from = absurd (omega (arith, enough))
        at (suc more) enough from =
            from (does_end o now new (gives r (suc more) c k xs s) (finish r around) t stop
            (does_end o now new (r.turn c k xs s) (after r (gives r more) c k xs) t stop h))

    -- the phrase goes on with one thing more
    pub unwinds_more : (mid : Seen) (x : X) (u : S) → Unwinds r o old now whole (suc left) around turns c k xs s
        → DoesBeside o now mid (Ok (More x)) u (r.turn c k xs s) → (n : ℕ) × Unwinds r o old mid whole left around n c k (xs ++ x ∷ []) u
    unwinds_more mid x u w h = at turns w.enough (λ new result t g. w.from new result t g)
      where
        at : (turns : ℕ) → suc left ≤ turns
            → ((new : Seen) (result : Result Y Stop) (t : S) → DoesBeside o now new result t (finish_all r around turns c k xs s) → DoesBeside o old new result t whole)
            → (n : ℕ) × Unwinds r o old mid whole left around n c k (xs ++ x ∷ []) u
        at zero enough from = absurd (omega (arith, enough))
        at (suc n) enough from = (
          n,
          record {
            enough = omega (arith, enough);
            around_enough = fewer left around w.around_enough;
            from = λ new result t g. from new result t (behind_turn r o now mid around c k xs s (More x) u n h new result t g);
          },
        )

    -- the phrase goes on as it was
    pub unwinds_again : (mid : Seen) (u : S) → Unwinds r o old now whole (suc left) around turns c k xs s
        → DoesBeside o now mid (Ok Again) u (r.turn c k xs s) → (n : ℕ) × Unwinds r o old mid whole left around n c k xs u
    unwinds_again mid u w h = at turns w.enough (λ new result t g. w.from new result t g)
      where
        at : (turns : ℕ) → suc left ≤ turns
            → ((new : Seen) (result : Result Y Stop) (t : S) → DoesBeside o now new result t (finish_all r around turns c k xs s) → DoesBeside o old new result t whole)
            → (n : ℕ) × Unwinds r o old mid whole left around n c k xs u
        at zero enough from = absurd (omega (arith, enough))
        at (suc n) enough from = (
          n,
          record {
            enough = omega (arith, enough);
            around_enough = fewer left around w.around_enough;
            from = λ new result t g. from new result t (behind_turn r o now mid around c k xs s Again u n h new result t g);
          },
        )

    -- an inner phrase begins: the phrase waits for it
    pub unwinds_inner : (mid new : Seen) (found : Found K X Y) (takes : Bool) (j : K) (u v : S) (d : C) → Unwinds r o old now whole (suc left) around turns c k xs s
        → DoesBeside o now mid (Ok found) u (r.turn c k xs s)
        → ((more : ℕ) (end : Seen) (result : Result Y Stop) (t : S)
        → DoesBeside o mid end result t (begun r (gives r more) c j u >>= (λ y. finish_all r around more c k (with_told r (record { turns = more; context = c; kind = k; taken = xs; takes = takes }) y.0) y.1))
        → DoesBeside o mid end result t (after r (gives r more) c k xs (found, u) >>= finish r around))
        → DoesBeside o mid new (Ok d) v (still (r.inside c j u))
        → (n : ℕ) × Unwinds r o old new whole left (record { turns = n; context = c; kind = k; taken = xs; takes = takes } ∷ around) n d j [] v
    unfolding finish
    unwinds_inner mid new found takes j u v d w h opened begins = at turns w.enough (λ end result t g. w.from end result t g)
      where
        at : (turns : ℕ) → suc left ≤ turns
            → ((end : Seen) (result : Result Y Stop) (t : S) → DoesBeside o now end result t (finish_all r around turns c k xs s) → DoesBeside o old end result t whole)
            → (n : ℕ) × Unwinds r o old new whole left (record { turns = n; context = c; kind = k; taken = xs; takes = takes } ∷ around) n d j [] v
        at zero enough from = absurd (omega (arith, enough))
        at (suc n) enough from =
            let waiting : Waiting C K X = record { turns = n; context = c; kind = k; taken = xs; takes = takes } in
            let behind : Y × S → Meant S Y = λ y. finish_all r around n c k (with_told r waiting y.0) y.1 in (
              n,
              record {
                enough = omega (arith, enough);
                around_enough = (omega (arith, enough), fewer left around w.around_enough);
                from = λ end result t g.
                    from end result t (behind_turn r o now mid around c k xs s found u n h end result t
                    (opened n end result t
                    (does_grouped o mid end (still (r.inside c j u)) (λ x. gives r n x.0 j [] x.1) behind result t
                    (does_then o mid new (still (r.inside c j u)) (λ x. gives r n x.0 j [] x.1 >>= behind) end d v t result begins g))));
              },
            )

    -- an inner phrase can't begin: the run ends
    pub unwinds_stop : (mid new : Seen) (found : Found K X Y) (further : (C → K → List X → S → Meant S Y) → Y × S → Meant S Y) (j : K) (u t : S) (stop : Stop)
        → Unwinds r o old now whole (suc left) around turns c k xs s
        → DoesBeside o now mid (Ok found) u (r.turn c k xs s)
        → ((more : ℕ) (end : Seen) (result : Result Y Stop) (t : S)
        → DoesBeside o mid end result t (begun r (gives r more) c j u >>= further (gives r more))
        → DoesBeside o mid end result t (after r (gives r more) c k xs (found, u) >>= finish r around))
        → DoesBeside {A = C} o mid new (Err stop) t (still (r.inside c j u))
        → DoesBeside {A = Y} o old new (Err stop) t whole
    unwinds_stop mid new found further j u t stop w h opened begins = at turns w.enough (λ g. w.from new (Err stop) t g)
      where
        at : (turns : ℕ) → suc left ≤ turns
            → (DoesBeside {A = Y} o now new (Err stop) t (finish_all r around turns c k xs s) → DoesBeside {A = Y} o old new (Err stop) t whole)
            → DoesBeside {A = Y} o old new (Err stop) t whole
        at zero enough from = absurd (omega (arith, enough))
        at (suc n) enough from =
            from (behind_turn r o now mid around c k xs s found u n h new (Err stop) t
            (opened n new (Err stop) t
            (does_end o mid new (begun r (gives r n) c j u) (further (gives r n)) t stop
            (does_end o mid new (still (r.inside c j u)) (λ x. gives r n x.0 j [] x.1) t stop begins))))

-- a phrase ends, and nothing is around it
pub unwinds_last : {S C K X Y : Type 0} (r : Rules S C K X Y) (o : Outside) (old now new : Seen) (whole : Meant S Y) (left turns : ℕ) (c : C) (k : K) (xs : List X) (s t : S) (v : Y)
    → Unwinds r o old now whole (suc left) [] turns c k xs s → DoesBeside o now new (Ok (Ends v)) t (r.turn c k xs s) → DoesBeside o old new (Ok v) t whole
unfolding finish
unwinds_last {S} {C} {K} {X} {Y} r o old now new whole left turns c k xs s t v w h = at turns w.enough (λ g. w.from new (Ok v) t g)
  where
    at : (turns : ℕ) → suc left ≤ turns → (DoesBeside o now new (Ok v) t (finish_all r [] turns c k xs s) → DoesBeside o old new (Ok v) t whole)
        → DoesBeside o old new (Ok v) t whole
    at zero enough from = absurd (omega (arith, enough))
    at (suc n) enough from =
        from (behind_turn r o now new [] c k xs s (Ends v) t n h new (Ok v) t
        (does_behind_still o new new v t (finish r []) (Ok v) t (does_still o new v t)))

-- a phrase ends, and the one around it goes on
pub unwinds_out : {S C K X Y : Type 0} (r : Rules S C K X Y) (o : Outside) (old now mid : Seen) (whole : Meant S Y) (left turns : ℕ) (w : Waiting C K X) (around : List (Waiting C K X))
    (c : C) (k : K) (xs : List X) (s u : S) (v : Y)
    → Unwinds r o old now whole (suc left) (w ∷ around) turns c k xs s → DoesBeside o now mid (Ok (Ends v)) u (r.turn c k xs s)
    → Unwinds r o old mid whole left around w.turns w.context w.kind (with_told r w v) u
unfolding finish
unwinds_out {S} {C} {K} {X} {Y} r o old now mid whole left turns w around c k xs s u v h g = record {
  enough = (let a : suc left ≤ w.turns = h.around_enough.0 in omega (arith, a));
  around_enough = fewer left around h.around_enough.1;
  from = λ new result t f. at new result t turns h.enough (λ a. h.from new result t a) f;
}
  where
    at : (new : Seen) (result : Result Y Stop) (t : S) (turns : ℕ) → suc left ≤ turns
        → (DoesBeside o now new result t (finish_all r (w ∷ around) turns c k xs s) → DoesBeside o old new result t whole)
        → DoesBeside o mid new result t (finish_all r around w.turns w.context w.kind (with_told r w v) u)
        → DoesBeside o old new result t whole
    at new result t zero enough from f = absurd (omega (arith, enough))
    at new result t (suc n) enough from f =
        from (behind_turn r o now mid (w ∷ around) c k xs s (Ends v) u n g new result t
        (does_behind_still o mid new v u (finish r (w ∷ around)) result t f))

-- ---- the two ways to read an inner phrase

pub opened_inner : {S C K X Y : Type 0} (r : Rules S C K X Y) (o : Outside) (mid : Seen) (around : List (Waiting C K X)) (c : C) (k : K) (xs : List X) (j : K) (u : S)
    (more : ℕ) (end : Seen) (result : Result Y Stop) (t : S)
    → DoesBeside o mid end result t (begun r (gives r more) c j u >>= (λ y. gives r more c k (xs ++ r.got y.0 ∷ []) y.1 >>= finish r around))
    → DoesBeside o mid end result t (after r (gives r more) c k xs (Inner j, u) >>= finish r around)
opened_inner r o mid around c k xs j u more end result t h =
    does_grouped o mid end (begun r (gives r more) c j u) (λ y. gives r more c k (xs ++ r.got y.0 ∷ []) y.1) (finish r around) result t h

pub opened_aside : {S C K X Y : Type 0} (r : Rules S C K X Y) (o : Outside) (mid : Seen) (around : List (Waiting C K X)) (c : C) (k : K) (xs : List X) (j : K) (u : S)
    (more : ℕ) (end : Seen) (result : Result Y Stop) (t : S)
    → DoesBeside o mid end result t (begun r (gives r more) c j u >>= (λ y. gives r more c k xs y.1 >>= finish r around))
    → DoesBeside o mid end result t (after r (gives r more) c k xs (Aside j, u) >>= finish r around)
opened_aside r o mid around c k xs j u more end result t h =
    does_grouped o mid end (begun r (gives r more) c j u) (λ y. gives r more c k xs y.1) (finish r around) result t h
