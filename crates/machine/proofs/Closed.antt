-- A closed run, fetched from memory word by word, and closed conversions: they compute.
use mathlib.Core.Path.{◌≡◌, refl}
use mathlib.Core.Bool.{cond}
use mathlib.Core.Option
use mathlib.Core.Option.{some, none, bind}
use mathlib.Core.List.{List, [], ◌∷◌, map}
use Prim.Native.Nat.{ℕ, ◌-◌, ◌^◌}
use lib.Dec.{eqb}
use lib.IntN.{pos, negsuc}
use lib.ListN.{get_or, replicate}
use Rattle.isa.specs.Instr.{Instr, F, C, I, S, B, U, FADD_D, FCVT_D_W, FCVT_D_L, ADDI, JALR, LD, FSD, BNE, LUI, AUIPC}
use Rattle.isa.specs.Encode.{encode, join, fields}
use Rattle.isa.specs.Decode.{decode, reading, cut}
use Rattle.machine.specs.Word.{upd, dist, load4, load8, store8}
use Rattle.machine.proofs.Binary64.{binary64}
use Rattle.machine.specs.State.{State, setx}
use Rattle.machine.specs.Effect.{effect, apply}
use Rattle.machine.specs.Step.{fetch, words, step}
use Rattle.machine.proofs.Exec.{bytes_of, run}

-- 3.0 + 2.0 + 1.0: each round calls the function at 44 by an odd address, and stores what is there so far
unfoldable pub program : List Instr
program =
    I ADDI 5 0 (pos 3)  -- 0: t0 = 3
    ∷ U LUI 6 (pos 2)  -- 4: t1 = 0x2000
    ∷ C FCVT_D_W 10 0 0  -- 8: fa0 = 0.0
    ∷ U AUIPC 7 (pos 0)  -- 12: t2 = 12
    ∷ I JALR 1 7 (pos 33)  -- 16: call 44
    ∷ S FSD 6 10 (negsuc 7)  -- 20: fa0 to t1 - 8
    ∷ I ADDI 5 5 (negsuc 0)  -- 24: t0 = t0 - 1
    ∷ B BNE 5 0 (negsuc 15)  -- 28: back to 12
    ∷ I LD 10 6 (negsuc 7)  -- 32: a0 from t1 - 8
    ∷ I JALR 0 31 (pos 0)  -- 36: to t6
    ∷ I ADDI 0 0 (pos 0)  -- 40: never reached
    ∷ C FCVT_D_L 11 5 7  -- 44: fa1 = t0
    ∷ F FADD_D 10 10 11 7  -- 48: fa0 = fa0 + fa1
    ∷ I JALR 0 1 (pos 0)  -- 52: return
    ∷ []

unfoldable pub begin : State
unfolding program bytes_of encode join fields
begin =
    record {
      pc = 0;
      x = λ r. cond (eqb r 31) 800 1000;
      f = λ r. 2000;
      rm = 0;
      mem = λ a. get_or (bytes_of (words program)) a 0;
    }

-- pc, ra, t0, a0, fa0, and the eight bytes stored
unfoldable pub seen : State → List ℕ
seen t = t.pc ∷ t.x 1 ∷ t.x 5 ∷ t.x 10 ∷ t.f 10 ∷ load8 t.mem 0x1ff8 ∷ []

-- 29 steps, three rounds of eight among them
pub ran : Option.map seen (run binary64 29 begin) ≡ some (800 ∷ 20 ∷ 0 ∷ 0x4018000000000000 ∷ 0x4018000000000000 ∷ 0x4018000000000000 ∷ [])
unfolding seen begin run step fetch decode reading cut encode join fields effect apply setx upd dist load4 load8 store8 binary64 bind
ran = refl

-- at 800 there is no instruction
pub stuck : run binary64 30 begin ≡ none
unfolding begin run step fetch decode reading cut encode join fields effect apply setx upd dist load4 load8 store8 binary64 bind
stuck = refl

-- -3.0, 0.0 and 3.0 to whole numbers, in the mode m
abbrev converted : ℕ → List ℕ
converted m = binary64.to_l m 0xc008000000000000 ∷ binary64.to_l m 0 ∷ binary64.to_w m 0x4008000000000000 ∷ []

-- nothing is rounded, whatever the mode
pub exact : map converted (0 ∷ 1 ∷ 2 ∷ 3 ∷ 4 ∷ []) ≡ replicate 5 ((2 ^ 64 - 3) ∷ 0 ∷ 3 ∷ [])
unfolding binary64
exact = refl
