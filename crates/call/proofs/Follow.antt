-- The machine follows the plain reading, line by line.
use mathlib.Core.Path.{◌≡◌, refl, ap, ◌∙◌}
use mathlib.Core.Bool.{Bool, not, ◌&&◌, ◌||◌}
use mathlib.Core.List.{List, [], ◌∷◌}
use mathlib.Core.Option.{some}
use Prim.Native.Nat.{ℕ, suc, ◌+◌, ◌*◌, ◌%◌, ◌^◌, ◌≤◌, ◌<◌}
use native.Mathlib.Omega.{arith}
use borrow.Author.Tests.{ne_eqb}
use lib.Dec.{T, eqb, leb}
use lib.ListN.{length, get_elem?}
use Rattle.ast.specs.Count.{cell_count}
use Rattle.machine.specs.Word.{w64, load8}
use Rattle.machine.specs.Floats.{Floats}
use Rattle.machine.specs.State.{State, Sound, getx}
use Rattle.machine.specs.Step.{CodeAt, Among, RunIn}
use Rattle.machine.specs.Ends.{temporary}
use Rattle.machine.proofs.Memory.{inside}
use Rattle.machine.proofs.Runs.{no_step, joined, wider, run_sound}
use Rattle.machine.proofs.Placed.{code_kept}
use Rattle.ast.specs.declared.Place.{Place}
use Rattle.ast.specs.declared.Place.TheVariants.{Mem, Stack, Param}
use Rattle.ast.specs.declared.Order.{Order}
use Rattle.assembler.specs.Resolved.{resolved}
use Rattle.reading.specs.Meaning.{Exit, on, to, Written, Meaning, meaning}
use Rattle.reading.specs.Line.{Line, order, constant, weight}
use Rattle.orders.specs.Code.{code, line_code}
use Rattle.orders.specs.Code as O
use Rattle.accesses.specs.Stands.{Accessible}
use Rattle.ast.specs.Uses.{uses}
use Rattle.orders.specs.Does.{accessed, At, OrderDoes, cell_value, const_value, written, exit_address}
use Rattle.orders.proofs.Does.{order_does}
use Rattle.orders.proofs.Laws.{line_length}
use Rattle.reading.specs.Program.{Program}
use Rattle.reading.specs.Plain.{Reading, goes, const, means, with_meaning, passed, Step, does, passes, Reads, none_read, line_read}
use Rattle.call.specs.Layout.{span, place, items, code_length, routine_words}
use Rattle.call.proofs.Offset.{line_offset}
use Rattle.call.proofs.Good.{GoodOrder, Good}
use Rattle.call.proofs.Items.{resolved_length}
use Rattle.call.proofs.Whole.{line_part, constant_part, offset_next, offset_four, offset_exit, offset_small, user_place, constants_place, placed, InCode, part_in}
use Rattle.call.proofs.Padding.{offset_eight}
use Rattle.call.proofs.Cells.{Inside, Rooms, Fine, stored, stored_cells, stored_rest}
use Rattle.call.proofs.Means.{accessible, same_meaning, fine_cells, exit_label}

-- registers that lines leave alone, and that the end of a call rests on: sp, gp, tp, s0..s11
abbrev pub lasting : ℕ → Bool
lasting r = eqb r 2 || (eqb r 3 || (eqb r 4 || (eqb r 8 || (eqb r 9 || (leb 18 r && leb r 27)))))

lasting_kept : (r : ℕ) → T (lasting r) → T (not (temporary r))
unfolding temporary
lasting_kept r h = rw (ne_eqb r 5 (λ e. rw e at h), ne_eqb r 6 (λ e. rw e at h), ne_eqb r 7 (λ e. rw e at h)) tt

base_lasting : (q : Place) → T (lasting (O.base q))
base_lasting Mem = tt
base_lasting Stack = tt
base_lasting Param = tt

base_reads : (s : State) (q : Place) → getx s (O.base q) ≡ s.x (O.base q)
base_reads s Mem = refl
base_reads s Stack = refl
base_reads s Param = refl

-- A p is where the cells of place p start. The code stands at `start` in memory m0; x0 and m0 are those behind prologue and saves.
module _ (Q : Floats) (p : Program) (A : Place → ℕ) (start : ℕ) (x0 m0 : ℕ → ℕ) where
  abbrev n : Place → ℕ
  n = cell_count p.head

  -- The machine stands where the reading stands.
  pub record Rel (r : Reading) (s : State) : Type 0 where
    pub sound : Sound s
    pub pc : s.pc ≡ w64 (start + line_offset p r.line)
    pub f : s.f ≡ r.f
    pub rm : s.rm ≡ r.rm
    pub cells : (q : Place) (i : ℕ) → i < n q → load8 s.mem (w64 (A q + 8 * i)) ≡ r.cells q i
    pub rest : (x : ℕ) → x < 2 ^ 64 → ((q : Place) → Inside (A q) (n q) x → ⊥) → s.mem x ≡ m0 x
    pub regs : (y : ℕ) → T (lasting y) → s.x y ≡ x0 y

  -- A run of at most so many words comes to where the reading r stands.
  pub record Comes (r : Reading) (s : State) (most : ℕ) : Type 0 where
    pub count : ℕ
    pub end : State
    pub runs : RunIn Q (InCode p start) s count end
    pub few : count ≤ most
    pub rel : Rel r end

  -- What is asked of where code and cells lie.
  pub record Ground : Type 0 where
    pub good : Good p
    pub rooms : Rooms A n
    pub start_aligned : start % 8 ≡ 0
    pub start_small : start < 2 ^ 64
    pub code_fits : start + code_length p ≤ 2 ^ 64
    pub off_code : (q : Place) (x : ℕ) → Inside (A q) (n q) x → start ≤ x → x < start + code_length p → ⊥
    pub bases : (q : Place) → 0 < n q → x0 (O.base q) ≡ A q
    pub bases_aligned : (q : Place) → 0 < n q → A q % 8 ≡ 0
    pub code : CodeAt m0 start (routine_words p)

  module _ (g : Ground) where
    -- the code still stands
    pub code_now : (r : Reading) (s : State) → Rel r s → CodeAt s.mem start (routine_words p)
    code_now r s h =
        let e = resolved_length (place p) 0 (items p) in
        code_kept m0 s.mem start (routine_words p) (omega (arith, g.code_fits))
        (λ x l d. let v = inside start (code_length p) x g.code_fits l (omega arith) in h.rest x l (λ q k. g.off_code q x k v.0 v.1))
        g.code

    base_now : (r : Reading) (s : State) → Rel r s → (q : Place) → 0 < n q → getx s (O.base q) ≡ A q
    base_now r s h q k = base_reads s q ∙ h.regs (O.base q) (base_lasting q) ∙ g.bases q k

    written_now : (r : Reading) (s : State) → Rel r s → (ws : List Written) (m : ℕ → ℕ) → Fine n ws → written s ws m ≡ stored A ws m
    written_now r s h [] m k = refl
    written_now r s h (w ∷ ws) m k = rw (base_now r s h w.place (omega (arith, k.0))) (written_now r s h ws _ k.2)

    -- One line.
    module _ (r : Reading) (s : State) (h : Rel r s) where
      constant_does : (c : _) → get_elem? p.lines r.line ≡ some (constant c) → Comes (passed Q p r) s 0
      unfolding line_code span
      constant_does c e =
          record {
            count = 0;
            end = s;
            runs = no_step Q;
            few = omega arith;
            rel =
                record {
                  sound = h.sound;
                  pc = h.pc ∙ ap (λ (k : ℕ). w64 (start + k)) (omega (arith, offset_next p r.line (constant c) e));
                  f = h.f;
                  rm = h.rm;
                  cells = h.cells;
                  rest = h.rest;
                  regs = h.regs;
                };
          }

      module _ (o : Order) (e : get_elem? p.lines r.line ≡ some (order o)) where
        abbrev here : ℕ
        here = line_offset p r.line

        fits : GoodOrder p o
        fits = g.good.orders r.line o e

        stands : At (place p) start here (code o) s
        unfolding line_code
        stands =
            record {
              sound = h.sound;
              start_aligned = omega (arith, g.start_aligned);
              here_aligned = offset_four p r.line;
              here_small = offset_small p g.good r.line;
              pc = h.pc;
              code = rw h.pc (line_part p s.mem start g.start_small (code_now r s h) r.line (order o) e);
            }

        -- its accesses are at multiples of 8
        reaches : Accessible (accessed (place p) start s (uses o).operand)
        reaches =
            accessible (place p) start s p.head p.lines o fits.index fits.named fits.fault_free
            (λ q i l. rw (base_now r s h q (omega arith)) (omega (arith, g.bases_aligned q (omega arith))))
            (λ k l b. rw (constants_place p g.good k l b) (omega (arith, g.start_aligned, offset_eight p (omega arith))))

        done : OrderDoes (place p) start Q here o s
        done = order_does Q (place p) (placed p g.good) start here o fits.fault_free s stands reaches

        -- the machine's readers are the reading's
        meant : meaning Q s.f s.rm (cell_value s) (const_value (place p) start s) o ≡ means Q p o r
        meant =
            rw (h.f, h.rm)
            (same_meaning Q r.f r.rm p.head p.lines o fits.index fits.named fits.fault_free (cell_value s) r.cells (const_value (place p) start s) (const Q p)
            (λ q i l. rw (base_now r s h q (omega arith)) (h.cells q i l))
            (λ k l b. rw (constants_place p g.good k l b) (constant_part p s.mem start g.start_small (code_now r s h) k b)))

        exits : (k : ℕ) (x : Exit) → (means Q p o r).exit ≡ x → goes p.lines r.line x ≡ some k → exit_address (place p) start s (length (resolved (place p) here (code o))) x ≡ w64 (start + line_offset p k)
        unfolding line_code
        exits k on q z =
            let y : suc r.line ≡ k = cc in
            rw (← y, h.pc, offset_next p r.line (order o) e) (plain start here (length (resolved (place p) here (code o))) (span (code o)) (resolved_length (place p) here (code o)))
          where
            plain : (a b c d : ℕ) → 4 * c ≡ d → w64 (w64 (a + b) + 4 * c) ≡ w64 (a + (b + d))
            plain a b c d e = omega arith
        exits k (to l) q z = rw (user_place p l k (exit_label Q r.f r.rm r.cells (const Q p) o l fits.fault_free q) z)

        order_comes : (k : ℕ) → goes p.lines r.line (means Q p o r).exit ≡ some k → Comes (with_meaning Q p k (means Q p o r) r) s (11 * weight (order o))
        unfolding line_code
        order_comes k z =
            record {
              count = done.count;
              end = end;
              runs = wider Q words done.ends.runs;
              few = omega (arith, done.few, line_length (place p) here (order o));
              rel =
                  record {
                    sound = run_sound Q done.ends.runs.runs h.sound;
                    pc =
                        done.ends.does.pc
                        ∙ ap (λ (m : Meaning). exit_address (place p) start s (length (resolved (place p) here (code o))) m.exit) meant
                        ∙ exits k (means Q p o r).exit refl z;
                    f = done.ends.does.f ∙ ap (λ (m : Meaning). m.f) meant;
                    rm = done.ends.does.rm ∙ h.rm;
                    cells = λ q i l. rw memory (stored_cells g.rooms ws s.mem r.cells fine h.cells q i l);
                    rest = λ x l b. rw memory (stored_rest g.rooms ws s.mem fine x l b ∙ h.rest x l b);
                    regs = λ y l. done.ends.does.x y (lasting_kept y l) ∙ h.regs y l;
                  };
            }
          where
            words : (x : ℕ) → Among s.pc (length (resolved (place p) here (code o))) x → InCode p start x
            words x =
                part_in p start here (length (resolved (place p) here (code o))) s.pc x h.pc
                (omega (arith, resolved_length (place p) here (code o), offset_next p r.line (order o) e, offset_exit p (suc r.line)))
                g.code_fits

            end : State
            end = done.ends.end

            ws : List Written
            ws = (means Q p o r).cells

            fine : Fine n ws
            fine = fine_cells Q r.f r.rm r.cells (const Q p) p.head o fits.index (λ y. rw (← h.f) (h.sound.f y))

            memory : end.mem ≡ stored A ws s.mem
            memory = done.ends.does.mem ∙ ap (λ (m : Meaning). written s m.cells s.mem) meant ∙ written_now r s h ws s.mem fine

    -- by the step of the reading
    pub line_comes : {r t : Reading} {l : Line} (s : State) → Rel r s → get_elem? p.lines r.line ≡ some l → Step Q p r l t → Comes t s (11 * weight l)
    line_comes s h e (does {r = r} {o = o} {n = k} z) = order_comes r s h o e k z
    line_comes s h e (passes {r = r} {c = c}) = constant_does r s h c e

    -- THE simulation: where the reading comes, the machine comes.
    pub follows : {r t : Reading} {k : ℕ} (s : State) → Rel r s → Reads Q p r k t → Comes t s (11 * k)
    follows s h none_read = record { count = 0; end = s; runs = no_step Q; few = omega arith; rel = h }
    follows s h (line_read e w q) =
        let u = line_comes s h e w in
        let v = follows u.end u.rel q in
        record {
          count = u.count + v.count;
          end = v.end;
          runs = joined Q u.runs v.runs;
          few = omega (arith, u.few, v.few);
          rel = v.rel;
        }
