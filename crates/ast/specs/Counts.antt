-- The numbers of line 1 (document 01, "Numbers of refusal", 9, and "Count"), for the deck's judge and for the frames.
use Rattle.std.specs.Prelude.{Bool, true, not, ◌&&◌, ◌||◌, ℕ, ltb, leb}
use Rattle.ast.specs.Count.{cells}
use Rattle.ast.specs.Mask.{saves}
use Rattle.ast.specs.declared.Frame.{Frame}
use Rattle.ast.specs.declared.Frame.TheVariants.{Fast, Indirect}
use Rattle.ast.specs.declared.Head.{Head}

-- no count is more than this
abbrev pub count_limit : ℕ
count_limit = 4096

-- a fast frame has at most 8 states, an indirect one at most 4,096 parameters
abbrev pub frame_holds : Head → Frame → Bool
frame_holds H Fast = leb H.states 8
frame_holds H Indirect = leb H.last count_limit

-- cap, states + observations and parameters at most 4,096 each: what a prologue needs
abbrev pub prologue_holds : Head → Bool
prologue_holds H = leb H.cap count_limit && (leb (cells H) count_limit && frame_holds H H.frame)

-- a fast result cell is at most this, and one of the cells
abbrev pub result_limit : ℕ
result_limit = 255

abbrev pub result_holds : Head → Frame → Bool
result_holds H Fast = leb H.last result_limit && ltb H.last (cells H)
result_holds H Indirect = true

-- what an epilogue needs
abbrev pub epilogue_holds : Head → Bool
epilogue_holds H = prologue_holds H && result_holds H H.frame

-- "cap at least 16 if the mask has a preserved register"
abbrev pub cap_holds : Head → Bool
cap_holds H = leb 16 H.cap || not (saves H.mask)

-- all of line 1
unfoldable pub counts_hold : Head → Bool
counts_hold H = epilogue_holds H && cap_holds H
