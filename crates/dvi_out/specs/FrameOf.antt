-- The frame that a value of `Surroundings` holds.
use Rattle.dvi_out.specs.declared.walker.Surroundings.{Surroundings}
use Rattle.dvi_out.specs.SpellingWalk.{Frame}

abbrev pub frame : Surroundings → Frame
frame around =
    record {
      vertical = around.vertical;
      width = around.width;
      height = around.height;
      depth = around.depth;
      set = around.set;
      left_edge = around.left_edge;
      level = around.level;
    }
