-- What each access does to the assembler's state (document 01, "mod.rs, accesses").
-- Its instructions, which leave no jump, are placed, or it is refused.
use Rattle.std.specs.Prelude.{List, map, ℕ}
use Rattle.isa.specs.Instr.{Instr}
use Rattle.assembler.specs.Item.{instr}
use Rattle.assembler.specs.State.{State, Outcome}
use Rattle.assembler.specs.Put.{put}
use Rattle.accesses.specs.Code.{li_code, load_float_code, save_float_code, load_int_code, load_complex_code, save_complex_code}
use Rattle.accesses.specs.Code.{sub_stack_code, add_stack_code, allocate_stack_code}
use Rattle.accesses.specs.Fault.{li_fault, one_fault, pair_fault, stack_fault}
use Rattle.accesses.specs.declared.Access.{Access}
use Rattle.accesses.specs.declared.Access.TheVariants.{Li, LoadFloat, SaveFloat, LoadInt, LoadComplex, SaveComplex}
use Rattle.accesses.specs.declared.Access.TheVariants.{SubStack, AddStack, AllocateStack}

abbrev straight : (fault : ℕ) → List Instr → State → Outcome
straight fault is = put 0 fault (map instr is)

abbrev pub accessed : Access → State → Outcome
accessed (Li d z) = straight (li_fault d) (li_code d z)
accessed (LoadFloat d base n) = straight (one_fault d base n) (load_float_code d base n)
accessed (SaveFloat s base n) = straight (one_fault s base n) (save_float_code s base n)
accessed (LoadInt d base n) = straight (one_fault d base n) (load_int_code d base n)
accessed (LoadComplex r base n) = straight (pair_fault r base n) (load_complex_code r base n)
accessed (SaveComplex r base n) = straight (pair_fault r base n) (save_complex_code r base n)
accessed (SubStack n) = straight (stack_fault n) (sub_stack_code n)
accessed (AddStack n) = straight (stack_fault n) (add_stack_code n)
accessed (AllocateStack n) = straight (stack_fault n) (allocate_stack_code n)
