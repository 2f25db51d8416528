-- The page so far that a value of `Writer` holds.
use Rattle.dvi_out.specs.declared.track.Track as rust
use Rattle.dvi_out.specs.declared.writer.Writer.{Writer}
use Rattle.dvi_out.specs.Buffer.{Track, track, Buffer, buffer}
use Rattle.dvi_out.specs.FamilyOf.{family_of}

abbrev pub track_of : rust.Track → Track
track_of t = track (family_of t.movements) t.places.items

abbrev pub buffer_of : Writer → Buffer
buffer_of writer =
    buffer writer.speller.bytes.items writer.speller.font writer.speller.fresh.items (track_of writer.rights)
    (track_of writer.downs)
