-- What accepted accesses do on the machine, proved. Assumes nothing.
use Rattle.accesses.specs.Claims.{Claim}
use Rattle.accesses.proofs.LoadImmediate.{li_accepted, li_runs}
use Rattle.accesses.proofs.Runs.{load_float_runs, load_int_runs, save_float_runs, load_complex_runs, save_complex_runs}
use Rattle.accesses.proofs.Stack.{sub_stack_runs, add_stack_runs, allocate_stack_runs}

pub claim : Claim
claim =
    record {
      li = λ d z t h. li_runs d z (li_accepted d h) t;
      load_float = load_float_runs;
      load_int = load_int_runs;
      save_float = save_float_runs;
      load_complex = load_complex_runs;
      save_complex = save_complex_runs;
      sub_stack = sub_stack_runs;
      add_stack = add_stack_runs;
      allocate_stack = allocate_stack_runs;
    }
