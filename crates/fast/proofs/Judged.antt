-- Numbers 9 and 11 of an order as one number. Assumes nothing.
use mathlib.Core.Path.{◌≡◌, refl, sym, ◌∙◌}
use mathlib.Core.Bool.{Bool, true, false, cond, ◌&&◌}
use Prim.Native.Nat.{ℕ, zero, suc, ◌/◌, ◌%◌, ◌+◌, ◌-◌, ◌<◌, ◌≤◌}
use native.Mathlib.Omega.{arith}
use borrow.Author.Tests.{eq-eqb, ne_eqb, eqb-true, eqb-false}
use lib.Dec.{eqb, ltb}
use Rattle.base.specs.Tests.{all}
use Rattle.ast.specs.Count.{cell_count}
use Rattle.ast.specs.Mask.{free, open_cell}
use Rattle.ast.specs.Uses.{unary_writes, index_holds, saves_hold}
use Rattle.ast.specs.declared.Unary.TheVariants.{Recip, Round, Floor, Not}
use Rattle.ast.specs.declared.Head.{Head}
use Rattle.form.specs.Inner.Names.{unary_at}
use Rattle.fast.specs.Inner.Packed.{place_at, unpacked}
use Rattle.fast.proofs.Apart.{is_unary, is_scratched, is_binary, is_fused, is_ifelse, is_load, is_save, is_load_const, is_branch, is_label, registers_order}

-- ---- 9

module _ (H : Head) (q : ℕ) where
  pub within_registers : q % 16 < 4 → true ≡ index_holds H (unpacked q)
  within_registers h =
      registers_order (λ o. true ≡ index_holds H o) q (λ k d s hd hs. refl) (λ k d s t hd hs ht. refl) (λ k d a b hd ha hb. refl) (λ k d a b c hd ha hb hc. refl) h

  pub within_ifelse : q % 16 ≡ 4 → ltb (q / 256 / 32 / 32 / 32 % 4096) H.cap ≡ index_holds H (unpacked q)
  within_ifelse e = rw (is_ifelse q e)

  pub within_cell : 4 ≤ q % 16 → (q % 16 ≡ 4 → ⊥) → q % 16 < 7 → ltb (q / 256 / 32 % 4096) (cell_count H (place_at (q / 16 % 16))) ≡ index_holds H (unpacked q)
  within_cell g n h = go (eqb (q % 16) 5) refl
    where
      go : (t : Bool) → eqb (q % 16) 5 ≡ t → ltb (q / 256 / 32 % 4096) (cell_count H (place_at (q / 16 % 16))) ≡ index_holds H (unpacked q)
      go true e = rw (is_load q (eqb-true (q % 16) 5 e))
      go false e = let f = eqb-false (q % 16) 5 e in rw (is_save q (omega (arith, n, f)))

  pub within_jumps : 7 ≤ q % 16 → index_holds H (unpacked q) ≡ true
  within_jumps h = go (eqb (q % 16) 7) (eqb (q % 16) 8) refl refl
    where
      go : (t u : Bool) → eqb (q % 16) 7 ≡ t → eqb (q % 16) 8 ≡ u → index_holds H (unpacked q) ≡ true
      go true u e f = rw (is_load_const q (eqb-true (q % 16) 7 e))
      go false true e f = rw (is_branch q (eqb-true (q % 16) 8 f))
      go false false e f = let a = eqb-false (q % 16) 7 e in let b = eqb-false (q % 16) 8 f in rw (is_label q (omega (arith, a, b)))

-- ---- 11

with_true : (t : Bool) → t && true ≡ t
with_true true = refl
with_true false = refl

module _ (mask : ℕ) where
  -- what a unary order writes
  module _ (n d s : ℕ) where
    pub unary_other : (n ≡ 0 → ⊥) → {t : Bool} → t ≡ free mask d → t ≡ all (free mask) (unary_writes (unary_at n) d s)
    unary_other h e = e ∙ rw (ne_eqb n 0 h) (go (eqb n 1) (eqb n 2) (eqb n 3))
      where
        go : (x y z : Bool) → free mask d ≡ all (free mask) (unary_writes (cond x Recip (cond y Round (cond z Floor Not))) d s)
        go true y z = sym (with_true (free mask d))
        go false true z = sym (with_true (free mask d))
        go false false true = sym (with_true (free mask d))
        go false false false = sym (with_true (free mask d))

    pub fmov_same : n ≡ 0 → d ≡ s → true ≡ all (free mask) (unary_writes (unary_at n) d s)
    fmov_same e f = rw (e, eq-eqb d s f)

    pub fmov_other : n ≡ 0 → (d ≡ s → ⊥) → {t : Bool} → t ≡ free mask d → t ≡ all (free mask) (unary_writes (unary_at n) d s)
    fmov_other e f g = g ∙ rw (e, ne_eqb d s f) (sym (with_true (free mask d)))

  module _ (q : ℕ) where
    pub keeps_const : {t : Bool} → q % 16 ≡ 7 → t ≡ free mask (q / 256 % 32) → t ≡ saves_hold mask (unpacked q)
    keeps_const h e = e ∙ rw (is_load_const q h, with_true (free mask (q / 256 % 32)), with_true (free mask (q / 256 % 32)))

    pub keeps_jumps : 8 ≤ q % 16 → true ≡ saves_hold mask (unpacked q)
    keeps_jumps h = go (eqb (q % 16) 8) refl
      where
        go : (t : Bool) → eqb (q % 16) 8 ≡ t → true ≡ saves_hold mask (unpacked q)
        go true e = rw (is_branch q (eqb-true (q % 16) 8 e))
        go false e = let f = eqb-false (q % 16) 8 e in rw (is_label q (omega (arith, f)))

    pub keeps_unary : {t : Bool} → q % 16 ≡ 0 → t ≡ all (free mask) (unary_writes (unary_at (q / 16 % 16)) (q / 256 % 32) (q / 256 / 32 % 32)) → t ≡ saves_hold mask (unpacked q)
    keeps_unary h e = e ∙ rw (is_unary q h) (sym (with_true _))

    pub keeps_scratched : {t : Bool} → q % 16 ≡ 1 → free mask (q / 256 / 32 / 32 % 32) ≡ true → t ≡ free mask (q / 256 % 32) → t ≡ saves_hold mask (unpacked q)
    keeps_scratched h f e = e ∙ rw (is_scratched q h, f, with_true (free mask (q / 256 % 32)), with_true (free mask (q / 256 % 32)))

    pub loses_scratched : q % 16 ≡ 1 → free mask (q / 256 / 32 / 32 % 32) ≡ false → false ≡ saves_hold mask (unpacked q)
    loses_scratched h f = rw (is_scratched q h, f)

    pub keeps_one : {t : Bool} → (q % 16 ≡ 0 → ⊥) → (q % 16 ≡ 1 → ⊥) → q % 16 < 6 → t ≡ free mask (q / 256 % 32) → t ≡ saves_hold mask (unpacked q)
    keeps_one {t} f g h e = go (q % 16 - 2) (omega (arith, f, g))
      where
        go : (k : ℕ) → q % 16 ≡ 2 + k → t ≡ saves_hold mask (unpacked q)
        go zero a = e ∙ rw (is_binary q a, with_true (free mask (q / 256 % 32)), with_true (free mask (q / 256 % 32)))
        go (suc zero) a = e ∙ rw (is_fused q a, with_true (free mask (q / 256 % 32)), with_true (free mask (q / 256 % 32)))
        go (suc (suc zero)) a = e ∙ rw (is_ifelse q a, with_true (free mask (q / 256 % 32)), with_true (free mask (q / 256 % 32)))
        go (suc (suc (suc zero))) a = e ∙ rw (is_load q a, with_true (free mask (q / 256 % 32)), with_true (free mask (q / 256 % 32)))
        go (suc (suc (suc (suc k)))) a = absurd (omega arith)

    pub keeps_save : {t : Bool} → q % 16 ≡ 6 → t ≡ open_cell mask (place_at (q / 16 % 16)) (q / 256 / 32 % 4096) → t ≡ saves_hold mask (unpacked q)
    keeps_save h e = e ∙ rw (is_save q h)
