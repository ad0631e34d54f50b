-- The claim applied to closed calls: document 01's sample, an indirect frame with a1 zero, and one with a table.
use mathlib.Core.Path.{◌≡◌, refl, sym, subst}
use mathlib.Core.Bool.{Bool, true, false, ◌&&◌, cond}
use mathlib.Core.List.{List, [], ◌∷◌, flat_map}
use mathlib.Core.Option.{some}
use Prim.Native.Nat.{ℕ, zero, suc, ◌+◌, ◌-◌, ◌%◌, ◌^◌, ◌≤◌, ◌<◌}
use native.Mathlib.Omega.{arith}
use borrow.Author.Tests.{le-leb, lt-leb, lt-ltb}
use lib.Dec.{T, eqb, ltb, leb, ltb→lt}
use lib.ListN.{length, get_or, get_elem?}
use Rattle.machine.specs.Word.{w64, upd, dist, load8, store8}
use Rattle.machine.specs.Floats.{Floats}
use Rattle.machine.proofs.Binary64.{binary64}
use Rattle.machine.specs.State.{State, Sound}
use Rattle.machine.specs.Step.{Loaded, Run}
use Rattle.base.proofs.Bools.{and_l, and_r}
use Rattle.ast.specs.declared.Place.TheVariants.{Mem, Param}
use Rattle.ast.specs.declared.Binary.TheVariants.{Times}
use Rattle.ast.specs.declared.Order.{Order}
use Rattle.ast.specs.declared.Order.TheVariants.{Binary, Load, Save}
use Rattle.ast.specs.declared.Frame.TheVariants.{Fast, Indirect}
use Rattle.assembler.specs.Bytes.{bytes}
use Rattle.assembler.proofs.Writes.{length_bytes}
use Rattle.accesses.specs.Code.{li_code, sub_stack_code, add_stack_code, allocate_stack_code, access_code, point_code}
use Rattle.reading.specs.Meaning.{meaning, binary}
use Rattle.reading.specs.Line.{Line, order, constant}
use Rattle.orders.specs.Code.{code, line_code, binary_code}
use Rattle.orders.specs.Fault.{fault}
use Rattle.ast.specs.Mask.{saved, saves as any_saved}
use Rattle.frame_code.specs.Items.{repeated, prologue, saves, reloads, epilogue}
use Rattle.reading.specs.Program.{Program, constants}
use Rattle.reading.specs.Plain.{Reading, with_cell, means, with_meaning, does, Reads, none_read, line_read}
use Rattle.reading.specs.Terms.{table_cell, start, Clear, frame, regions, Terms}
use Rattle.reading.proofs.Start.{fast_terms}
use Rattle.call.specs.Layout.{span, body, padding, constants_from, items, place, code_length, routine_words}
use Rattle.call.proofs.Good.{GoodOrder, Good}
use Rattle.call.specs.Returned.{Returned}
use Rattle.call.proofs.Claim.{Called}
use Rattle.call.proofs.Items.{resolved_length}
use Rattle.call.proofs.Call.{call}

-- ---- memory made of bytes at addresses

-- m, but bs from a on
unfoldable pub with_bytes : ℕ → List ℕ → (ℕ → ℕ) → ℕ → ℕ
with_bytes a bs m x = cond (leb a x && ltb x (a + length bs)) (get_or bs (x - a) 0) (m x)

pub loaded : (a : ℕ) (bs : List ℕ) (m : ℕ → ℕ) → a + length bs ≤ 2 ^ 64 → Loaded (with_bytes a bs m) a bs
unfolding with_bytes
loaded a bs m h k l =
    let e : w64 (a + k) ≡ a + k = omega arith in
    let d : a + k - a ≡ k = omega arith in
    rw (e, le-leb a (a + k) (omega arith), lt-ltb (a + k) (a + length bs) (omega arith), d)

-- bytes above them leave them
above : (m : ℕ → ℕ) (a b : ℕ) (bs cs : List ℕ) → a + length bs ≤ b → b < 2 ^ 64 → Loaded m a bs → Loaded (with_bytes b cs m) a bs
unfolding with_bytes
above m a b bs cs h n f k l =
    let e : w64 (a + k) ≡ a + k = omega arith in
    let y = f k l in
    rw (e, lt-leb b (a + k) (omega arith)) (rw e at y)

abbrev pub Bytes : List ℕ → Type 0
Bytes bs = (k : ℕ) → get_or bs k 0 < 256

pub with_small : (a : ℕ) (bs : List ℕ) (m : ℕ → ℕ) → Bytes bs → ((x : ℕ) → m x < 256) → (x : ℕ) → with_bytes a bs m x < 256
unfolding with_bytes
with_small a bs m h k x = by (leb a x && ltb x (a + length bs))
  where
    by : (b : Bool) → cond b (get_or bs (x - a) 0) (m x) < 256
    by true = h (x - a)
    by false = k x

-- the bytes of words are bytes
pub words_small : (ws : List ℕ) → Bytes (bytes ws)
unfolding bytes flat_map
words_small [] k = omega arith
words_small (w ∷ ws) zero = omega arith
words_small (w ∷ ws) (suc zero) = omega arith
words_small (w ∷ ws) (suc (suc zero)) = omega arith
words_small (w ∷ ws) (suc (suc (suc zero))) = omega arith
words_small (w ∷ ws) (suc (suc (suc (suc k)))) = words_small ws k

pub upd_small : (f : ℕ → ℕ) (k v : ℕ) → v < 2 ^ 64 → ((r : ℕ) → f r < 2 ^ 64) → (r : ℕ) → upd f k v r < 2 ^ 64
unfolding upd
upd_small f k v h g r = by (eqb r k)
  where
    by : (b : Bool) → cond b v (f r) < 2 ^ 64
    by true = h
    by false = g r

-- ---- a machine with code at 0x10000, ra 0x20000 and sp 0x80000

module _ (bs : List ℕ) (f : ℕ → ℕ) where
  abbrev pub machine : State
  machine =
      record {
        pc = 0x10000;
        x = upd (upd (λ r. 0) 1 0x20000) 2 0x80000;
        f = f;
        rm = 0;
        mem = with_bytes 0x10000 bs (λ x. 0);
      }

  pub machine_sound : Bytes bs → ((r : ℕ) → f r < 2 ^ 64) → Sound machine
  machine_sound b small =
      record {
        pc = omega arith;
        x = upd_small (upd (λ r. 0) 1 0x20000) 2 0x80000 (omega arith) (upd_small (λ r. 0) 1 0x20000 (omega arith) (λ r. omega arith));
        f = small;
        rm = omega arith;
        mem = with_small 0x10000 bs (λ x. 0) b (λ x. omega arith);
      }

  -- a fast frame of k states, no cap and no mask
  pub machine_terms : (k n : ℕ) → k ≤ 8 → n ≤ 65536 → Terms (record { frame = Fast; cap = 0; states = k; obs = 0; last = 0; mask = 0 }) n machine
  unfolding upd
  machine_terms k n h l = fast_terms 0 k 0 0 0 n machine refl refl (λ w. omega (arith, w.1)) refl (omega arith)

-- ---- document 01's sample: `fast,0,1,0,0,0`

abbrev pub sample : Program
sample = record { head = record { frame = Fast; cap = 0; states = 1; obs = 0; last = 0; mask = 0 }; lines = [] }

sample_length : code_length sample ≡ 84
unfolding items span body constants padding constants_from prologue epilogue saves reloads saved li_code sub_stack_code add_stack_code
sample_length = refl

sample_good : Good sample
unfolding any_saved constants
sample_good =
    record {
      counts = tt;
      cap = tt;
      orders = λ n o e. let z : ◌≡◌ {A = ℕ} 0 1 = cc in absurd (omega arith);
      bits = λ k h. absurd (omega arith);
      room = rw sample_length (omega arith);
    }

-- f10 is the state
module _ (Q : Floats) (f : ℕ → ℕ) (small : (r : ℕ) → f r < 2 ^ 64) where
  abbrev pub first : State
  first = machine (bytes (routine_words sample)) f

  pub first_called : Called sample first
  first_called =
      record {
        sound = machine_sound (bytes (routine_words sample)) f (words_small (routine_words sample)) small;
        code = loaded 0x10000 (bytes (routine_words sample)) (λ x. 0) (omega (arith, length_bytes (routine_words sample), resolved_length (place sample) 0 (items sample), sample_length));
        terms = subst (λ (n : ℕ). Terms sample.head n first) (sym sample_length) (machine_terms (bytes (routine_words sample)) f 1 84 (omega arith) (omega arith));
      }

  first_returns : Returned Q sample (code_length sample) first 0 (start sample.head first)
  first_returns = call Q sample sample_good first first_called 0 (start sample.head first) none_read (omega arith)

  -- it comes back to ra in at most 21 words, with the state as the result
  pub sample_returns : (n : ℕ) × (t : State) × Run Q first n t × (n ≤ 21) × (t.pc ≡ 0x20000) × (t.x 2 ≡ 0x80000) × (t.f 10 ≡ f 10)
  unfolding upd saved li_code sub_stack_code
  sample_returns =
      let r = first_returns in
      (r.count, r.end, r.runs, r.few, r.pc, r.x 2 tt, r.fa0 refl)

-- ---- the product of a state and a parameter: `indirect,0,1,1,1,0`, then four orders

abbrev pub product : Program
product =
    record {
      head = record { frame = Indirect; cap = 0; states = 1; obs = 1; last = 1; mask = 0 };
      lines =
          order (Load 0 Param 0)  -- get,0,param,0
          ∷ order (Load 1 Mem 0)  -- get,1,mem,0
          ∷ order (Binary Times 2 0 1)  -- times,2,0,1
          ∷ order (Save 2 Mem 1)  -- put,2,mem,1
          ∷ [];
    }

product_length : code_length product ≡ 204
unfolding items span body constants padding constants_from prologue epilogue saves reloads saved repeated line_code code binary_code access_code point_code li_code sub_stack_code add_stack_code allocate_stack_code
product_length = refl

-- every order of some lines has P
abbrev Each : (Order → Type 0) → List Line → Type 0
Each P [] = Unit {0}
Each P (order o ∷ ls) = P o × Each P ls
Each P (constant c ∷ ls) = Each P ls

each : (P : Order → Type 0) (ls : List Line) → Each P ls → (n : ℕ) (o : Order) → get_elem? ls n ≡ some (order o) → P o
each P [] a n o e = let z : ◌≡◌ {A = ℕ} 0 1 = cc in absurd (omega arith)
each P (order q ∷ ls) a zero o e = let z : q ≡ o = cc in subst P z a.0
each P (order q ∷ ls) a (suc n) o e = each P ls a.1 n o e
each P (constant c ∷ ls) a zero o e = let z : ◌≡◌ {A = ℕ} 0 1 = cc in absurd (omega arith)
each P (constant c ∷ ls) a (suc n) o e = each P ls a n o e

product_good : Good product
unfolding any_saved constants fault
product_good =
    record {
      counts = tt;
      cap = tt;
      orders =
          each (GoodOrder product) product.lines
          (record { fault_free = refl; index = tt; saves = tt; named = tt }, (record { fault_free = refl; index = tt; saves = tt; named = tt }, (record { fault_free = refl; index = tt; saves = tt; named = tt }, (record { fault_free = refl; index = tt; saves = tt; named = tt }, tt))));
      bits = λ k h. absurd (omega arith);
      room = rw product_length (omega arith);
    }

-- 2.0, 3.0 and a pointer, as bytes
abbrev two : List ℕ
two = 0 ∷ 0 ∷ 0 ∷ 0 ∷ 0 ∷ 0 ∷ 0 ∷ 0x40 ∷ []

abbrev three : List ℕ
three = 0 ∷ 0 ∷ 0 ∷ 0 ∷ 0 ∷ 0 ∷ 8 ∷ 0x40 ∷ []

-- two entries of 16 bytes: 0x60000 and 0x70000
abbrev pointers : List ℕ
pointers =
    0 ∷ 0 ∷ 6 ∷ 0 ∷ 0 ∷ 0 ∷ 0 ∷ 0 ∷ 0 ∷ 0 ∷ 0 ∷ 0 ∷ 0 ∷ 0 ∷ 0 ∷ 0 ∷ 0 ∷ 0 ∷ 7 ∷ 0 ∷ 0 ∷ 0 ∷ 0 ∷ 0 ∷ 0 ∷ 0 ∷ 0 ∷ 0 ∷ 0 ∷ 0 ∷ 0 ∷ 0 ∷ []

-- with a1 zero: the block at 0x30000 has 2.0, the parameter at 0x40000 is 3.0
abbrev pub block : State
block =
    record {
      pc = 0x10000;
      x = upd (upd (upd (upd (λ r. 0) 1 0x20000) 2 0x80000) 10 0x30000) 13 0x40000;
      f = λ r. 0;
      rm = 0;
      mem = with_bytes 0x30000 two (with_bytes 0x40000 three (with_bytes 0x10000 (bytes (routine_words product)) (λ x. 0)));
    }

block_terms : Terms product.head 204 block
unfolding upd
block_terms =
    record {
      code_aligned = refl;
      block_aligned = λ h. refl;
      table_aligned = λ h. absurd h;
      cells_aligned = λ h. absurd h;
      params_aligned = λ h. refl;
      ra_aligned = refl;
      ra_outside = λ w. omega (arith, w.1);
      sp_aligned = refl;
      separate = omega arith;
      state_cells = λ h. absurd h;
      obs_cells = λ h. absurd h;
    }

data_small : Bytes two × Bytes three × Bytes pointers
data_small = (by two tt, by three tt, by pointers tt)
  where
    all : List ℕ → Bool
    all [] = true
    all (b ∷ bs) = ltb b 256 && all bs

    by : (bs : List ℕ) → T (all bs) → Bytes bs
    by [] h k = omega arith
    by (b ∷ bs) h zero = ltb→lt b 256 (and_l (ltb b 256) (all bs) h)
    by (b ∷ bs) h (suc k) = by bs (and_r (ltb b 256) (all bs) h) k

product_fits : length (bytes (routine_words product)) ≡ 204
product_fits = omega (arith, length_bytes (routine_words product), resolved_length (place product) 0 (items product), product_length)

abbrev code_memory : ℕ → ℕ
code_memory = with_bytes 0x10000 (bytes (routine_words product)) (λ x. 0)

code_small : (x : ℕ) → code_memory x < 256
code_small = with_small 0x10000 (bytes (routine_words product)) (λ x. 0) (words_small (routine_words product)) (λ x. omega arith)

code_loaded : Loaded code_memory 0x10000 (bytes (routine_words product))
code_loaded = loaded 0x10000 (bytes (routine_words product)) (λ x. 0) (omega (arith, product_fits))

pub block_called : Called product block
block_called =
    record {
      sound =
          record {
            pc = omega arith;
            x = upd_small _ 13 0x40000 (omega arith) (upd_small _ 10 0x30000 (omega arith) (upd_small _ 2 0x80000 (omega arith) (upd_small (λ r. 0) 1 0x20000 (omega arith) (λ r. omega arith))));
            f = λ r. omega arith;
            rm = omega arith;
            mem = with_small 0x30000 two _ data_small.0 (with_small 0x40000 three _ data_small.1 code_small);
          };
      code = above _ 0x10000 0x30000 (bytes (routine_words product)) two (omega (arith, product_fits)) (omega arith) (above _ 0x10000 0x40000 (bytes (routine_words product)) three (omega (arith, product_fits)) (omega arith) code_loaded);
      terms = subst (λ (n : ℕ). Terms product.head n block) (sym product_length) block_terms;
    }

-- the reading of the four orders
module _ (s : State) where
  abbrev r1 : Reading
  r1 = let r = start product.head s in with_meaning binary64 product 1 (means binary64 product (Load 0 Param 0) r) r

  abbrev r2 : Reading
  r2 = with_meaning binary64 product 2 (means binary64 product (Load 1 Mem 0) r1) r1

  abbrev r3 : Reading
  r3 = with_meaning binary64 product 3 (means binary64 product (Binary Times 2 0 1) r2) r2

  abbrev pub r4 : Reading
  r4 = with_meaning binary64 product 4 (means binary64 product (Save 2 Mem 1) r3) r3

  pub four : Reads binary64 product (start product.head s) 4 r4
  unfolding meaning
  four = line_read refl (does refl) (line_read refl (does refl) (line_read refl (does refl) (line_read refl (does refl) none_read)))

block_returns : Returned binary64 product (code_length product) block 4 (r4 block)
block_returns = call binary64 product product_good block block_called 4 (r4 block) (four block) (omega arith)

-- 6.0 in the block's second cell, and the parameter as it was
pub product_returns : (t : State) × (t.pc ≡ 0x20000) × (load8 t.mem 0x30008 ≡ 0x4018000000000000) × (load8 t.mem 0x40000 ≡ 0x4008000000000000)
unfolding upd meaning binary with_cell with_bytes load8 binary64
product_returns =
    let r = block_returns in
    (r.end, r.pc, r.cells Mem 1 (omega arith), r.cells Param 0 (omega arith))

-- with a table at 0x50000 and a2 one: the state cell is at 0x60008, the observation cell at 0x70008
abbrev pub table : State
table =
    record {
      pc = 0x10000;
      x = upd (upd (upd (upd (upd (λ r. 0) 1 0x20000) 2 0x80000) 11 0x50000) 12 1) 13 0x40000;
      f = λ r. 0;
      rm = 0;
      mem = with_bytes 0x60008 two (with_bytes 0x50000 pointers (with_bytes 0x40000 three code_memory));
    }

table_terms : Terms product.head 204 table
unfolding upd load8 with_bytes
table_terms =
    record {
      code_aligned = refl;
      block_aligned = λ h. absurd h;
      table_aligned = λ h. refl;
      cells_aligned = λ h. both_cells;
      params_aligned = λ h. refl;
      ra_aligned = refl;
      ra_outside = λ w. omega (arith, w.1);
      sp_aligned = refl;
      separate = omega arith;
      state_cells = λ h. only_state;
      obs_cells = λ h. only_obs;
    }
  where
    both_cells : (i : ℕ) → i < 2 → table_cell product.head table i % 8 ≡ 0
    both_cells zero h = refl
    both_cells (suc zero) h = refl
    both_cells (suc (suc i)) h = absurd (omega arith)

    only_state : (i : ℕ) → i < 1 → Clear (table_cell product.head table i) (frame product.head table ∷ [])
    only_state zero h = omega arith
    only_state (suc i) h = absurd (omega arith)

    only_obs : (i : ℕ) → i < 1 → Clear (table_cell product.head table (1 + i)) (regions product.head 204 table Indirect)
    only_obs zero h = omega arith
    only_obs (suc i) h = absurd (omega arith)

pub table_called : Called product table
table_called =
    record {
      sound =
          record {
            pc = omega arith;
            x = upd_small _ 13 0x40000 (omega arith) (upd_small _ 12 1 (omega arith) (upd_small _ 11 0x50000 (omega arith) (upd_small _ 2 0x80000 (omega arith) (upd_small (λ r. 0) 1 0x20000 (omega arith) (λ r. omega arith)))));
            f = λ r. omega arith;
            rm = omega arith;
            mem = with_small 0x60008 two _ data_small.0 (with_small 0x50000 pointers _ data_small.2 (with_small 0x40000 three _ data_small.1 code_small));
          };
      code =
          above _ 0x10000 0x60008 (bytes (routine_words product)) two (omega (arith, product_fits)) (omega arith)
          (above _ 0x10000 0x50000 (bytes (routine_words product)) pointers (omega (arith, product_fits)) (omega arith)
          (above _ 0x10000 0x40000 (bytes (routine_words product)) three (omega (arith, product_fits)) (omega arith) code_loaded));
      terms = subst (λ (n : ℕ). Terms product.head n table) (sym product_length) table_terms;
    }

table_returns : Returned binary64 product (code_length product) table 4 (r4 table)
table_returns = call binary64 product product_good table table_called 4 (r4 table) (four table) (omega arith)

-- the two high bytes of 6.0 in the observation cell, s2 and f8 as they were
pub observed_returns : (t : State) × (t.pc ≡ 0x20000) × (t.mem 0x7000f ≡ 0x40) × (t.mem 0x7000e ≡ 0x18) × (t.x 18 ≡ 0) × (t.f 8 ≡ 0)
unfolding upd meaning binary with_cell with_bytes load8 store8 dist binary64
observed_returns =
    let r = table_returns in
    (r.end, r.pc, r.obs 0x7000f (tt, 0, omega arith, (7, omega arith, refl)), r.obs 0x7000e (tt, 0, omega arith, (6, omega arith, refl)), r.x 18 tt, r.f 8 tt)
