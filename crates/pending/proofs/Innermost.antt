-- Sources: the innermost of the flat list, and how many there are.
use Rattle.std.proofs.Common.{◌≡◌, ℕ, List, [], ◌∷◌, ◌++◌, ap, ◌∙◌, refl, map, drop}
use Rattle.std.specs.Prelude.{Bool, Option, Some, None}
use Rattle.tokens.specs.declared.token.Token.{Token}
use Rattle.pending.specs.declared.level.Level.{Level}
use Rattle.pending.specs.declared.level.Level.TheVariants.{List as ListLevel, Body, Back, Source as SourceLevel}
use Rattle.pending.specs.declared.source.Origin.{Origin}
use Rattle.pending.specs.declared.source.Source.{Source}
use Rattle.pending.specs.declared.waiting.Waiting.{Waiting}
use Rattle.pending.specs.Origin.{counted, count_from}
use Rattle.pending.specs.Pending.{Item, Ready, From, fresh, filled, innermost, replaced, sources_of}
use Rattle.pending.specs.Levels.{joined, behind_front}

-- the first of some sources
abbrev pub first_of : List Source → Option Source
first_of [] = None
first_of (source ∷ sources) = Some source

innermost-fresh : (tokens : List Token) (items : List Item) → innermost (map fresh tokens ++ items) ≡ innermost items
innermost-fresh [] items = refl
innermost-fresh (token ∷ tokens) items = innermost-fresh tokens items

pub innermost-joined : (levels : List Level) (sources : List Source) → innermost (joined levels sources) ≡ first_of sources
innermost-joined [] [] = refl
innermost-joined [] (source ∷ sources) = refl
innermost-joined (ListLevel tokens at ∷ levels) sources = innermost-fresh (drop at tokens) (joined levels sources) ∙ innermost-joined levels sources
innermost-joined (Body body arguments at ∷ levels) sources =
    innermost-fresh (filled arguments.items (drop at body)) (joined levels sources) ∙ innermost-joined levels sources
innermost-joined (Back waiting ∷ levels) sources = innermost-joined levels sources
innermost-joined (SourceLevel ∷ levels) [] = refl
innermost-joined (SourceLevel ∷ levels) (source ∷ sources) = refl

replaced-fresh : (new : Source) (tokens : List Token) (items : List Item) → replaced new (map fresh tokens ++ items) ≡ map fresh tokens ++ replaced new items
replaced-fresh new [] items = refl
replaced-fresh new (token ∷ tokens) items = ap (λ (rest : List Item). fresh token ∷ rest) (replaced-fresh new tokens items)

pub replaced-joined : (new source : Source) (levels : List Level) (sources : List Source)
    → replaced new (joined levels (source ∷ sources)) ≡ joined levels (new ∷ sources)
replaced-joined new source [] sources = refl
replaced-joined new source (ListLevel tokens at ∷ levels) sources =
    replaced-fresh new (drop at tokens) (joined levels (source ∷ sources))
    ∙ ap (λ (rest : List Item). map fresh (drop at tokens) ++ rest) (replaced-joined new source levels sources)
replaced-joined new source (Body body arguments at ∷ levels) sources =
    replaced-fresh new (filled arguments.items (drop at body)) (joined levels (source ∷ sources))
    ∙ ap (λ (rest : List Item). map fresh (filled arguments.items (drop at body)) ++ rest) (replaced-joined new source levels sources)
replaced-joined new source (Back waiting ∷ levels) sources =
    ap (λ (rest : List Item). Ready waiting ∷ rest) (replaced-joined new source levels sources)
replaced-joined new source (SourceLevel ∷ levels) sources = refl

sources_of-fresh : (p : Origin → Bool) (tokens : List Token) (items : List Item) → sources_of p (map fresh tokens ++ items) ≡ sources_of p items
sources_of-fresh p [] items = refl
sources_of-fresh p (token ∷ tokens) items = sources_of-fresh p tokens items

sources_of-from : (p : Origin → Bool) (sources : List Source) → sources_of p (map (λ source. From source) sources) ≡ count_from p sources
sources_of-from p [] = refl
sources_of-from p (source ∷ sources) = ap (counted (p source.origin)) (sources_of-from p sources)

pub sources_of-joined : (p : Origin → Bool) (levels : List Level) (sources : List Source) → sources_of p (joined levels sources) ≡ count_from p sources
sources_of-joined p [] sources = sources_of-from p sources
sources_of-joined p (ListLevel tokens at ∷ levels) sources = sources_of-fresh p (drop at tokens) (joined levels sources) ∙ sources_of-joined p levels sources
sources_of-joined p (Body body arguments at ∷ levels) sources =
    sources_of-fresh p (filled arguments.items (drop at body)) (joined levels sources) ∙ sources_of-joined p levels sources
sources_of-joined p (Back waiting ∷ levels) sources = sources_of-joined p levels sources
sources_of-joined p (SourceLevel ∷ levels) [] = refl
sources_of-joined p (SourceLevel ∷ levels) (source ∷ sources) = ap (counted (p source.origin)) (sources_of-joined p levels sources)

-- a token that was put back in front of all is no source
pub innermost-front : (front : Option Waiting) (items : List Item) → innermost (behind_front front items) ≡ innermost items
innermost-front None items = refl
innermost-front (Some waiting) items = refl

pub replaced-front : (new : Source) (front : Option Waiting) (items : List Item) → replaced new (behind_front front items) ≡ behind_front front (replaced new items)
replaced-front new None items = refl
replaced-front new (Some waiting) items = refl

pub sources_of-front : (p : Origin → Bool) (front : Option Waiting) (items : List Item) → sources_of p (behind_front front items) ≡ sources_of p items
sources_of-front p None items = refl
sources_of-front p (Some waiting) items = refl
