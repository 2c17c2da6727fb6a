pub mod CutLaws
pub mod SlotLaws
pub mod TableLaws
