pub mod Known
pub mod Bodies
pub mod Walking
pub mod Making
pub mod MadeTrees
