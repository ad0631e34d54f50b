-- What the accesses refuse (document 01, "Numbers of refusal"; document 02, point 6): the number, or 0.
use Rattle.std.specs.Prelude.{Bool, not, ◌&&◌, ◌||◌, cond, ℕ, eqb, ltb, leb}
use Rattle.isa.specs.Register.{t0}
use Rattle.refusal.specs.Number.{number_of}
use Rattle.refusal.specs.declared.Refusal.TheVariants.{Register, Value, Base}
use Rattle.accesses.specs.Code.{near, near_pair}

-- offsets and stack sizes go to this
abbrev pub offset_limit : ℕ
offset_limit = 0x7FFFFFFF

-- `li` takes every 32-bit signed value
abbrev pub li_fault : (d : ℕ) → ℕ
li_fault d = cond (ltb d 32) 0 (number_of Register)

-- t0 can't be the base where t0 is computed
abbrev pub access_fault : (limit : ℕ) → (registers : Bool) → (base offset : ℕ) → ℕ
access_fault limit registers base n =
    cond registers
    (cond (leb n offset_limit) (cond (ltb n limit || not (eqb base t0)) 0 (number_of Base)) (number_of Value))
    (number_of Register)

-- `load_float`, `save_float`, `load_int`
abbrev pub one_fault : (r base offset : ℕ) → ℕ
one_fault r base = access_fault near (ltb r 32 && ltb base 32) base

-- the last register that starts a pair
abbrev pub last_pair : ℕ
last_pair = 30

-- `load_complex`, `save_complex`
abbrev pub pair_fault : (r base offset : ℕ) → ℕ
pair_fault r base = access_fault near_pair (leb r last_pair && ltb base 32) base

-- `sub_stack`, `add_stack`, `allocate_stack`
abbrev pub stack_fault : (size : ℕ) → ℕ
stack_fault n = cond (leb n offset_limit) 0 (number_of Value)
