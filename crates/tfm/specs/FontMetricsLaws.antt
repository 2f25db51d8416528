-- What follows from the definitions of a font's metrics.
use Rattle.std.proofs.Common.{◌≡◌, ◌<◌, ℕ, List, slice_index_or, arith, ap, ◌∙◌}
use Rattle.std.proofs.lemmas.List.FromFn.{get_or-map-range_with_len}
use Rattle.tfm.specs.declared.lengths.Lengths.{Lengths}
use Rattle.tfm.specs.declared.size.Size.{Size}
use Rattle.tfm.specs.FontMetricsLengths.{lengths_of, file_of}
use Rattle.tfm.specs.FontMetrics.{FontMetrics, characters_below, character_at, no_character, character_in, metrics_at, metrics_of, size_of, HasCharactersOf}

-- the characters that are decoded are those of the file
pub character_below : (bytes : List ℕ) (l : Lengths) (size n code : ℕ) → code < n → slice_index_or (characters_below bytes l size n) code no_character ≡ character_at bytes l size code
unfolding characters_below
character_below bytes l size n code below =
    get_or-map-range_with_len (character_at bytes l size) 0 n code code no_character below (omega arith)

-- metrics that bytes and a size stand for have the file's characters
pub characters_of_metrics : (bytes : List ℕ) (size : Size) (metrics : FontMetrics) → metrics ≡ metrics_of bytes size → HasCharactersOf bytes size metrics
unfolding metrics_of metrics_at
characters_of_metrics bytes size metrics same code below =
    ap (λ (m : FontMetrics). character_in m code) same ∙ character_below (file_of bytes) (lengths_of bytes) (size_of bytes size) 256 code below
