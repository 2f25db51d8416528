-- Rewriting a word as far as it goes before more is fed is rewriting the whole word.
use Rattle.std.proofs.Common.{◌≡◌, ℕ, zero, suc, ◌+◌, Bool, true, false, cond, List, [], ◌∷◌, ◌++◌, Result, Ok, Err, refl, sym, ap, subst, ◌∙◌, arith}
use Rattle.std.proofs.lemmas.List.{map-append}
use Rattle.tokens.specs.declared.stop.Stop.{Stop}
use Rattle.tokens.specs.declared.stop.Stop.TheVariants.{Spent}
use Rattle.tokens.specs.Ends.{EndsAs-map}
use Rattle.tokens.specs.Budget.{Allowance}
use Rattle.tfm.specs.declared.action.Action.{Action}
use Rattle.tfm.specs.declared.action.Action.TheVariants.{Nothing, Kern, Lig}
use Rattle.tfm.specs.FontMetrics.{FontMetrics}
use Rattle.nodes.specs.declared.node.Node.{Node}
use Rattle.lig_kern.specs.declared.element.Element.{Element}
use Rattle.lig_kern.specs.declared.element.Element.TheVariants.{Character}
use Rattle.lig_kern.specs.Elements.{nodes_of, between, is_ligature, kerns_of}
use Rattle.lig_kern.specs.Rewriting.{Word, word_at, first_of, word_of_fed, with_more, with_fed, last_of, closed, moved_on, moved, is_due_at, is_due, rewritten_by, rewritten_before, rewritten, after, AreDue, list_of}
use Rattle.lig_kern.specs.Settling.{rewritings, Settled, settled, Settles}
use Rattle.lig_kern.specs.Histories.{StandsFor, KeepsHistory, KeepsHistories, SetsHistory}
use Rattle.lig_kern.proofs.Cursors.{after-same, moved-due}

-- ---- moving the cursor

moved-more_by : (m : FontMetrics) (more : List Element) (font : ℕ) (set : List Node) (here next : Element) (ahead : List Element) (t : Bool)
    → is_ligature (between m here next) ≡ t
    → (let nodes = set ++ nodes_of m font here ++ kerns_of (between m here next) in moved m (with_more more (moved_on m font nodes next 0 ahead)) ≡ moved_on m font nodes next 0 (ahead ++ more))
    → moved m (with_more more (moved_on m font set here 0 (next ∷ ahead))) ≡ moved_on m font set here 0 (next ∷ (ahead ++ more))
unfolding moved_on
moved-more_by m more font set here next ahead true e ih =
    let start : Word = word_at font set here 0 (next ∷ ahead) in
    let on : Word = moved_on m font (set ++ nodes_of m font here ++ kerns_of (between m here next)) next 0 ahead in
    ap (λ (x : Bool). moved m (with_more more (cond x start on))) e
moved-more_by m more font set here next ahead false e ih =
    let nodes : List Node = set ++ nodes_of m font here ++ kerns_of (between m here next) in
    let start : Word = word_at font set here 0 (next ∷ ahead) in
    let start_after : Word = word_at font set here 0 (next ∷ (ahead ++ more)) in
    let on : Word = moved_on m font nodes next 0 ahead in
    let on_after : Word = moved_on m font nodes next 0 (ahead ++ more) in
    ap (λ (x : Bool). moved m (with_more more (cond x start on))) e ∙ (ih ∙ sym (ap (λ (x : Bool). cond x start_after on_after) e))

moved-more_at : (m : FontMetrics) (more : List Element) (font : ℕ) (set : List Node) (here : Element) (over : ℕ) (ahead : List Element)
    → moved m (with_more more (moved_on m font set here over ahead)) ≡ moved_on m font set here over (ahead ++ more)
unfolding moved_on
moved-more_at m more font set here over [] = refl
moved-more_at m more font set here zero (next ∷ ahead) =
    moved-more_by m more font set here next ahead (is_ligature (between m here next)) refl
    (moved-more_at m more font (set ++ nodes_of m font here ++ kerns_of (between m here next)) next 0 ahead)
moved-more_at m more font set here (suc over) (next ∷ ahead) =
    moved-more_at m more font (set ++ nodes_of m font here ++ []) next over ahead

-- the cursor comes to the same place
moved-more : (m : FontMetrics) (more : List Element) (w : Word) → moved m (with_more more (moved m w)) ≡ moved m (with_more more w)
moved-more m more w = moved-more_at m more w.font w.set w.here w.over w.ahead

-- ---- rewriting

due-more_at : (m : FontMetrics) (more : List Element) (here : Element) (over : ℕ) (ahead : List Element)
    → is_due_at m here over ahead ≡ true → is_due_at m here over (ahead ++ more) ≡ true
due-more_at m more here over [] e = cc
due-more_at m more here zero (next ∷ ahead) e = e
due-more_at m more here (suc over) (next ∷ ahead) e = cc

due-more : (m : FontMetrics) (more : List Element) (w : Word) → is_due m w ≡ true → is_due m (with_more more w) ≡ true
due-more m more w e = due-more_at m more w.here w.over w.ahead e

rewritten_by-more : (action : Action) (more : List Element) (font : ℕ) (set : List Node) (here : Element) (over : ℕ) (next : Element) (ahead : List Element)
    → is_ligature action ≡ true
    → rewritten_by action next (word_at font set here over (ahead ++ more)) (word_at font set here over (next ∷ (ahead ++ more)))
    ≡ with_more more (rewritten_by action next (word_at font set here over ahead) (word_at font set here over (next ∷ ahead)))
rewritten_by-more Nothing more font set here over next ahead e = cc
rewritten_by-more (Kern width) more font set here over next ahead e = cc
rewritten_by-more (Lig byte true true skip) more font set here over next ahead e = refl
rewritten_by-more (Lig byte true false skip) more font set here over next ahead e = refl
rewritten_by-more (Lig byte false true skip) more font set here over next ahead e = refl
rewritten_by-more (Lig byte false false skip) more font set here over next ahead e = refl

rewritten-more_at : (m : FontMetrics) (more : List Element) (font : ℕ) (set : List Node) (here : Element) (over : ℕ) (ahead : List Element)
    → is_due_at m here over ahead ≡ true
    → rewritten_before m (ahead ++ more) (word_at font set here over (ahead ++ more)) ≡ with_more more (rewritten_before m ahead (word_at font set here over ahead))
rewritten-more_at m more font set here over [] e = cc
rewritten-more_at m more font set here zero (next ∷ ahead) e = rewritten_by-more (between m here next) more font set here 0 next ahead e
rewritten-more_at m more font set here (suc over) (next ∷ ahead) e = cc

rewritten-more : (m : FontMetrics) (more : List Element) (w : Word) → is_due m w ≡ true → rewritten m (with_more more w) ≡ with_more more (rewritten m w)
unfolding rewritten
rewritten-more m more w e = rewritten-more_at m more w.font w.set w.here w.over w.ahead e

-- where a ligature is due, the longer word is rewritten as the shorter one
rewritten-moved-more : (m : FontMetrics) (more : List Element) (w : Word) → is_due m (moved m w) ≡ true
    → rewritten m (moved m (with_more more w)) ≡ with_more more (rewritten m (moved m w))
rewritten-moved-more m more w e =
    let v : Word = moved m w in
    ap (λ (x : Word). rewritten m x) (sym (moved-more m more w) ∙ moved-due m (with_more more v) (due-more m more v e)) ∙ rewritten-more m more v e

due-moved-more : (m : FontMetrics) (more : List Element) (w : Word) → is_due m (moved m w) ≡ true → is_due m (moved m (with_more more w)) ≡ true
due-moved-more m more w e =
    let v : Word = moved m w in
    ap (λ (x : Word). is_due m x) (sym (moved-more m more w) ∙ moved-due m (with_more more v) (due-more m more v e)) ∙ due-more m more v e

-- ---- many rewritings

AreDue-same : (m : FontMetrics) (n : ℕ) (w v : Word) → moved m w ≡ moved m v → AreDue m n w → AreDue m n v
unfolding AreDue
AreDue-same m zero w v e h = tt
AreDue-same m (suc n) w v e h =
    subst (λ (x : Word). (is_due m x ≡ true) × AreDue m n (rewritten m x)) e h

after-more : (m : FontMetrics) (more : List Element) (n k : ℕ) (w : Word) → AreDue m n w
    → after m k (with_more more (after m n w)) ≡ after m (n + k) (with_more more w)
unfolding after AreDue
after-more m more zero k w h =
    let z : k ≡ 0 + k = omega arith in
    after-same m k (with_more more (moved m w)) (with_more more w) (moved-more m more w) ∙ ap (λ (x : ℕ). after m x (with_more more w)) z
after-more m more (suc n) k w h =
    let z : suc (n + k) ≡ suc n + k = omega arith in
    after-more m more n k (rewritten m (moved m w)) h.1
    ∙ (sym (ap (λ (x : Word). after m (n + k) x) (rewritten-moved-more m more w h.0)) ∙ ap (λ (x : ℕ). after m x (with_more more w)) z)

AreDue-more : (m : FontMetrics) (more : List Element) (n k : ℕ) (w : Word) → AreDue m n w → AreDue m k (with_more more (after m n w))
    → AreDue m (n + k) (with_more more w)
unfolding after AreDue
AreDue-more m more zero k w h d =
    let z : k ≡ 0 + k = omega arith in
    subst (λ (x : ℕ). AreDue m x (with_more more w)) z (AreDue-same m k (with_more more (moved m w)) (with_more more w) (moved-more m more w) d)
AreDue-more m more (suc n) k w h d =
    let z : suc (n + k) ≡ suc n + k = omega arith in
    let r : AreDue m (n + k) (with_more more (rewritten m (moved m w))) = AreDue-more m more n k (rewritten m (moved m w)) h.1 d in
    let s : AreDue m (n + k) (rewritten m (moved m (with_more more w))) = subst (λ (x : Word). AreDue m (n + k) x) (sym (rewritten-moved-more m more w h.0)) r in
    subst (λ (x : ℕ). AreDue m x (with_more more w)) z (due-moved-more m more w h.0, s)

-- as many rewritings are due as are counted
AreDue-rewritings_by : (m : FontMetrics) (n : ℕ) (w : Word) (t : Bool) → is_due m (moved m w) ≡ t
    → (let v = rewritten m (moved m w) in AreDue m (rewritings m n v) v)
    → AreDue m (cond t (suc (rewritings m n (rewritten m (moved m w)))) 0) w
unfolding AreDue
AreDue-rewritings_by m n w true e h = (e, h)
AreDue-rewritings_by m n w false e h = tt

AreDue-rewritings : (m : FontMetrics) (n : ℕ) (w : Word) → AreDue m (rewritings m n w) w
unfolding AreDue rewritings
AreDue-rewritings m zero w = tt
AreDue-rewritings m (suc n) w =
    AreDue-rewritings_by m n w (is_due m (moved m w)) refl (AreDue-rewritings m n (rewritten m (moved m w)))

-- ---- what was fed

fed-more : (font : ℕ) (left : Bool) (fed : List ℕ) (byte : ℕ) → with_fed byte (word_of_fed font left fed) ≡ word_of_fed font left (fed ++ byte ∷ [])
fed-more font left fed byte =
    ap (λ (x : List Element). word_at font [] (first_of left) 0 x) (sym (map-append Character fed (byte ∷ [])))

pub history-fed : (m : FontMetrics) (byte steps : ℕ) (w new : Word) → new ≡ after m (rewritings m steps (with_fed byte w)) (with_fed byte w)
    → KeepsHistory m byte steps w new
history-fed m byte steps w new e font left fed count h =
    let more : List Element = Character byte ∷ [] in
    let start : Word = word_of_fed font left fed in
    let k : ℕ = rewritings m steps (with_fed byte w) in
    let d : AreDue m k (with_more more (after m count start)) = subst (λ (x : Word). AreDue m k (with_more more x)) h.made (AreDue-rewritings m steps (with_fed byte w)) in
    record {
      due = subst (λ (x : Word). AreDue m (count + k) x) (fed-more font left fed byte) (AreDue-more m more count k start h.due d);
      made = e ∙ (ap (λ (x : Word). after m k (with_more more x)) h.made ∙ (after-more m more count k start h.due ∙ ap (λ (x : Word). after m (count + k) x) (fed-more font left fed byte)));
    }

pub history-set : (m : FontMetrics) (w : Word) (right : Bool) (steps : ℕ) (list : List Node)
    → (after m (rewritings m steps (closed right w)) (closed right w)).ahead ≡ []
    → list ≡ list_of m (after m (rewritings m steps (closed right w)) (closed right w))
    → SetsHistory m w right steps list
history-set m w right steps list ended made font left fed count h =
    let more : List Element = last_of right in
    let start : Word = word_of_fed font left fed in
    let k : ℕ = rewritings m steps (closed right w) in
    let d : AreDue m k (with_more more (after m count start)) = subst (λ (x : Word). AreDue m k (with_more more x)) h.made (AreDue-rewritings m steps (closed right w)) in
    let same : after m k (closed right w) ≡ after m (count + k) (closed right start) = ap (λ (x : Word). after m k (with_more more x)) h.made ∙ after-more m more count k start h.due in
    record {
      due = AreDue-more m more count k start h.due d;
      ended = subst (λ (x : Word). x.ahead ≡ []) same ended;
      made = made ∙ ap (λ (x : Word). list_of m x) same;
    }

-- a word of which nothing was fed stands for that
pub history-new : (m : FontMetrics) (font : ℕ) (left : Bool) → StandsFor m font left [] 0 (word_of_fed font left [])
unfolding after AreDue moved_on
history-new m font left = record { due = tt; made = refl }

-- ---- calls

-- a call that leaves what the longer word comes to
pub histories-fed : {A : Type 0} (m : FontMetrics) (byte : ℕ) (w v : Word) (b : Allowance) (result : Result A Stop) (new : Word) (c : Allowance)
    → v ≡ with_fed byte w → Settles m v b result new c → KeepsHistories m byte b.left w result new
unfolding settled
histories-fed m byte w v b (Ok value) new c e h =
    let s : settled m (with_fed byte w) b ≡ record { word = new; budget = c } = sym (ap (λ (x : Word). settled m x b) e) ∙ h.0 in
    history-fed m byte b.left w new (ap (λ (x : Settled). x.word) (sym s))
histories-fed m byte w v b (Err stop) new c e h =
    let same : settled m v b ≡ settled m (with_fed byte w) b = ap (λ (x : Word). settled m x b) e in
    EndsAs-map (λ s. (s ≡ Spent) × (settled m v b ≡ record { word = new; budget = c }) × (is_due m new ≡ true))
    (λ s. KeepsHistory m byte b.left w new)
    (λ s p. history-fed m byte b.left w new (ap (λ (x : Settled). x.word) (sym (sym same ∙ p.1)))) stop h

-- a call that leaves what the whole word comes to
pub histories-set : (m : FontMetrics) (w v : Word) (right : Bool) (b : Allowance) (new : Word) (c : Allowance) (list : List Node)
    → v ≡ closed right w → settled m v b ≡ record { word = new; budget = c } → new.ahead ≡ [] → list ≡ list_of m new
    → SetsHistory m w right b.left list
unfolding settled
histories-set m w v right b new c list e s ended made =
    let same : settled m (closed right w) b ≡ record { word = new; budget = c } = sym (ap (λ (x : Word). settled m x b) e) ∙ s in
    let word : new ≡ after m (rewritings m b.left (closed right w)) (closed right w) = ap (λ (x : Settled). x.word) (sym same) in
    history-set m w right b.left list (subst (λ (x : Word). x.ahead ≡ []) word ended) (made ∙ ap (λ (x : Word). list_of m x) word)
