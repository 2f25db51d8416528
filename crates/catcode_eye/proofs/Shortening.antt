-- A glance leaves a shorter rest, since what it tells does.
use Rattle.std.proofs.Common.{◌≡◌, ℕ, List, length, take, drop, refl, sym, subst, Result}
use Rattle.tokens.specs.declared.stop.Stop.{Stop}
use Rattle.catcode_eye.specs.declared.name.Place.{Place}
use Rattle.catcode_eye.specs.declared.seen.Glance.{Glance}
use Rattle.catcode_eye.specs.declared.seen.Glance.TheVariants.{Char, Active, Word, Par, LineEnd, Invalid, OutOfMemory}
use Rattle.catcode_eye.specs.declared.seen.State.{State}
use Rattle.catcode_eye.specs.Seen.{Sight, sight}
use Rattle.catcode_eye.specs.Sighting.{rest_at, Shows}
use Rattle.catcode_eye.specs.Progress.{GlanceShortens, LeavesBelow, sight-shorter}

Shows-shorter : (meant : Result Sight Stop) (rest : List ℕ) (state : State) (glance : Glance) (name rest' : List ℕ) (state' : State)
    → Shows meant rest state glance name rest' state' → LeavesBelow (length rest) meant → GlanceShortens glance rest rest'
Shows-shorter meant rest state (Char cat byte) name rest' state' h below = subst (LeavesBelow (length rest)) h below refl
Shows-shorter meant rest state (Active byte) name rest' state' h below = subst (LeavesBelow (length rest)) h below refl
Shows-shorter meant rest state Word name rest' state' h below = subst (LeavesBelow (length rest)) h below refl
Shows-shorter meant rest state Par name rest' state' h below = subst (LeavesBelow (length rest)) h below refl
Shows-shorter meant rest state LineEnd name rest' state' h below = tt
Shows-shorter meant rest state Invalid name rest' state' h below = tt
Shows-shorter meant rest state OutOfMemory name rest' state' h below = tt

pub glance-shorter : (cats : List ℕ) (state : State) (at end : ℕ) (bytes slice : List ℕ) (glance : Glance) (name : List ℕ) (place : Place)
    (state' : State) (rest rest' : List ℕ)
    → slice ≡ bytes → drop at (take end bytes) ≡ rest → rest' ≡ rest_at (take end bytes) place
    → Shows (sight cats state (drop at (take end slice))) (drop at (take end slice)) state glance name (rest_at (take end slice) place) state'
    → GlanceShortens glance rest rest'
glance-shorter cats state at end bytes slice glance name place state' rest rest' same was is shows =
    let before : List ℕ → Type 0 = λ r. GlanceShortens glance r rest' in
    let after : List ℕ → Type 0 = λ r. GlanceShortens glance (drop at (take end bytes)) r in
    let both : List ℕ → Type 0 = λ b. GlanceShortens glance (drop at (take end b)) (rest_at (take end b) place) in
    subst before was (subst after (sym is) (subst both same
    (Shows-shorter _ (drop at (take end slice)) state glance name _ state' shows (sight-shorter cats state (drop at (take end slice))))))
