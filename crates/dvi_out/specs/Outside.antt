-- What a value of `Inside` keeps of the walk around a box.
use Rattle.std.specs.Prelude.{◌≡◌}
use Rattle.dvi_out.specs.declared.walker.Inside.{Inside}
use Rattle.dvi_out.specs.SpellingWalk.{Walk, with_glue, with_reader}

-- the reader's place and the glue are those of a walk
pub record Keeps (inside : Inside) (w : Walk) : Type 0 where
  pub reader_h : inside.reader_h ≡ w.reader_h
  pub reader_v : inside.reader_v ≡ w.reader_v
  pub sum : inside.sum ≡ w.sum
  pub grown : inside.grown ≡ w.grown

-- a walk with what was kept
abbrev pub left_to : Inside → Walk → Walk
left_to inside w = with_glue inside.sum inside.grown (with_reader inside.reader_h inside.reader_v w)
