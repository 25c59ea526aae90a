use Rattle.lc_program_tests.proofs.runs.mem_system.MemSystemSystem.open_file.Goals as goal

pub returns : goal.returns
returns c = rw (c.new.ensures, c.as_bytes.ensures.value) at c.open_file.ensures.given
