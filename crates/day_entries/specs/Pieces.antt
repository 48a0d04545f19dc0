-- A payload with the pieces that come after it and aren't added yet. This project's own.
use Rattle.std.specs.Prelude.{ℕ, List, ◌++◌}
use Rattle.adx_io.specs.Frames.{FrameState}

-- the payload of a frame with these bytes after it
abbrev pub with_pieces : List ℕ → FrameState → List ℕ
with_pieces pieces frame = frame.payload ++ pieces
