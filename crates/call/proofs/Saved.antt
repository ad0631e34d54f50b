-- Preserved float registers while a good program is read: those outside the mask stay, and so do the cells of the saved ones.
use mathlib.Core.Path.{◌≡◌, refl, ap, sym, ◌∙◌}
use mathlib.Core.Logic.{◌≢◌, ◌⊎◌, inl, inr}
use mathlib.Core.Bool.{Bool, true, false, not, ◌&&◌, ◌||◌, cond}
use mathlib.Core.List.Memᴰ
use mathlib.Core.List.{List, [], ◌∷◌, map, Memᴰ}
use mathlib.Core.Option.{some}
use Prim.Native.Nat.{ℕ}
use borrow.Author.Tests.{eq-eqb, ne_eqb, eqb-true}
use lib.Dec.{T, T_not, eqb}
use lib.ListN.{get_elem?}
use Rattle.machine.specs.Word.{upd}
use Rattle.machine.specs.Floats.{Floats}
use Rattle.machine.proofs.Memory.{upd_other}
use Rattle.base.proofs.Bools.{and_l, and_r}
use Rattle.ast.specs.declared.Place.{Place}
use Rattle.ast.specs.declared.Place.TheVariants.{Mem, Stack, Param}
use Rattle.ast.specs.declared.Unary as U
use Rattle.ast.specs.declared.Unary.TheVariants.{Fmov, Recip, Round, Floor, Not}
use Rattle.ast.specs.declared.Scratched as S
use Rattle.ast.specs.declared.Scratched.TheVariants.{Sign, Frac}
use Rattle.ast.specs.declared.Order.{Order}
use Rattle.ast.specs.declared.Order.TheVariants.{Unary, Scratched, Binary, Fused, Ifelse, LoadConst, Load, Save, BranchIf, SetLabel}
use Rattle.reading.specs.Meaning.{unary, scratched, meaning}
use Rattle.reading.specs.Line.{Line}
use Rattle.ast.specs.Mask.{preserved, in_mask, saved, save_cell, free}
use Rattle.reading.specs.Program.{Program}
use Rattle.reading.specs.Plain.{Reading, with_cell, with_cells, Step, does, passes, Reads, none_read, line_read}
use Rattle.call.proofs.Good.{Good}
use Rattle.base.specs.Tests.{member, all}
use Rattle.ast.specs.Uses.{uses, unary_writes, operand_open}

upd_self : (f : ℕ → ℕ) (d y : ℕ) → upd f d (f d) y ≡ f y
unfolding upd
upd_self f d y = by (eqb y d) refl
  where
    by : (b : Bool) → eqb y d ≡ b → cond b (f d) (f y) ≡ f y
    by true e = ap f (sym (eqb-true y d e))
    by false e = refl

module _ (mask : ℕ) where
  -- a preserved register outside the mask
  abbrev pub Guarded : ℕ → Type 0
  Guarded y = T (member y preserved) × T (not (in_mask mask y))

  not_free : (y d : ℕ) → Guarded y → T (free mask d) → y ≢ d
  not_free y d g h e = by (member y preserved) (in_mask mask y) g.0 g.1 (rw (← e) at h)
    where
      by : (a b : Bool) → T a → T (not b) → T (not a || b) → ⊥
      by true true p q r = q
      by true false p q r = r
      by false b p q r = p

  module _ (Q : Floats) (f : ℕ → ℕ) (rm y : ℕ) (g : Guarded y) where
    one : (d v : ℕ) → T (free mask d && true) → upd f d v y ≡ f y
    one d v h = upd_other f d v y (not_free y d g (and_l (free mask d) true h))

    two : (d e v w : ℕ) → T (free mask e && (free mask d && true)) → upd (upd f e v) d w y ≡ f y
    two d e v w h =
        upd_other (upd f e v) d w y (not_free y d g (and_l (free mask d) true (and_r (free mask e) _ h)))
        ∙ upd_other f e v y (not_free y e g (and_l (free mask e) _ h))

    unary_keeps : (k : U.Unary) (d s : ℕ) → T (all (free mask) (unary_writes k d s)) → unary Q rm k f d s y ≡ f y
    unfolding unary
    unary_keeps Fmov d s h = by (eqb d s) refl h
      where
        by : (b : Bool) → eqb d s ≡ b → T (all (free mask) (cond b [] (d ∷ []))) → upd f d (f s) y ≡ f y
        by true e h = rw (← (eqb-true d s e)) (upd_self f d y)
        by false e h = one d (f s) h
    unary_keeps Recip d s h = two d 10 _ _ h
    unary_keeps Round d s h = one d _ h
    unary_keeps Floor d s h = one d _ h
    unary_keeps Not d s h = one d _ h

    scratched_keeps : (k : S.Scratched) (d s t : ℕ) → T (all (free mask) (t ∷ d ∷ [])) → scratched Q rm k f d s t y ≡ f y
    unfolding scratched
    scratched_keeps Sign d s t h = two d t _ _ h
    scratched_keeps Frac d s t h = two d t _ _ h

    -- an order leaves it
    register_kept : (c : Place → ℕ → ℕ) (k : ℕ → ℕ) (o : Order) → T (all (free mask) (uses o).writes) → (meaning Q f rm c k o).f y ≡ f y
    unfolding meaning
    register_kept c k (Unary u d s) h = unary_keeps u d s h
    register_kept c k (Scratched u d s t) h = scratched_keeps u d s t h
    register_kept c k (Binary u d a b) h = one d _ h
    register_kept c k (Fused u d a b e) h = one d _ h
    register_kept c k (Ifelse d a b i) h = one d _ h
    register_kept c k (LoadConst d i) h = one d _ h
    register_kept c k (Load d p i) h = one d _ h
    register_kept c k (Save s p i) h = refl
    register_kept c k (BranchIf a l e) h = refl
    register_kept c k (SetLabel l) h = refl

  -- ---- the cell of a saved register

  mapped : (y : ℕ) (rs : List ℕ) → Memᴰ y rs → T (member (save_cell y) (map save_cell rs))
  mapped y [] m = absurd (Memᴰ.not-nil m)
  mapped y (r ∷ rs) m = by (Memᴰ.cases_cons m) (mapped y rs)
    where
      right : (a b : Bool) → T b → T (a || b)
      right true b h = tt
      right false b h = h

      by : (y ≡ r) ⊎ Memᴰ y rs → (Memᴰ y rs → T (member (save_cell y) (map save_cell rs))) → T (eqb (save_cell y) (save_cell r) || member (save_cell y) (map save_cell rs))
      by (inl e) f = rw (eq-eqb (save_cell y) (save_cell r) (ap save_cell e)) tt
      by (inr n) f = right (eqb (save_cell y) (save_cell r)) _ (f n)

  -- an order leaves it
  cell_kept : (Q : Floats) (f : ℕ → ℕ) (rm y : ℕ) → Memᴰ y (saved mask) → (c : Place → ℕ → ℕ) (k : ℕ → ℕ) (o : Order) → T (operand_open mask (uses o).operand) → with_cells (meaning Q f rm c k o).cells c Stack (save_cell y) ≡ c Stack (save_cell y)
  unfolding meaning with_cell
  cell_kept Q f rm y m c k (Unary u d s) h = refl
  cell_kept Q f rm y m c k (Scratched u d s t) h = refl
  cell_kept Q f rm y m c k (Binary u d a b) h = refl
  cell_kept Q f rm y m c k (Fused u d a b e) h = refl
  cell_kept Q f rm y m c k (Ifelse d a b i) h = refl
  cell_kept Q f rm y m c k (LoadConst d i) h = refl
  cell_kept Q f rm y m c k (Load d p i) h = refl
  cell_kept Q f rm y m c k (Save s Mem i) h = refl
  cell_kept Q f rm y m c k (Save s Stack i) h = rw (ne_eqb (save_cell y) i (λ e. T_not (member i (map save_cell (saved mask))) h (rw e at (mapped y (saved mask) m))))
  cell_kept Q f rm y m c k (Save s Param i) h = refl
  cell_kept Q f rm y m c k (BranchIf a l e) h = refl
  cell_kept Q f rm y m c k (SetLabel l) h = refl

-- ---- along a reading

-- The rounding mode and the bytes of observation cells stay too.
pub record Held (mask : ℕ) (r t : Reading) : Type 0 where
  pub rm : t.rm ≡ r.rm
  pub obs : t.obs ≡ r.obs
  pub registers : (y : ℕ) → Guarded mask y → t.f y ≡ r.f y
  pub cells : (y : ℕ) → Memᴰ y (saved mask) → t.cells Stack (save_cell y) ≡ r.cells Stack (save_cell y)

module _ (Q : Floats) (p : Program) (g : Good p) where
  abbrev mask : ℕ
  mask = p.head.mask

  step_held : {r t : Reading} {l : Line} → get_elem? p.lines r.line ≡ some l → Step Q p r l t → Held mask r t
  step_held e (does {r = r} {o = o} q) =
      let h = (g.orders r.line o e).saves in
      record {
        rm = refl;
        obs = refl;
        registers = λ y v. register_kept mask Q r.f r.rm y v r.cells _ o (and_l (all (free mask) (uses o).writes) _ h);
        cells = λ y m. cell_kept mask Q r.f r.rm y m r.cells _ o (and_r (all (free mask) (uses o).writes) _ h);
      }
  step_held e passes = record { rm = refl; obs = refl; registers = λ y v. refl; cells = λ y m. refl }

  pub held : {r t : Reading} {k : ℕ} → Reads Q p r k t → Held mask r t
  held none_read = record { rm = refl; obs = refl; registers = λ y v. refl; cells = λ y m. refl }
  held (line_read e w q) =
      let a = step_held e w in
      let b = held q in
      record { rm = b.rm ∙ a.rm; obs = b.obs ∙ a.obs; registers = λ y v. b.registers y v ∙ a.registers y v; cells = λ y m. b.cells y m ∙ a.cells y m }
