pub mod Common
pub mod ActLaws
pub mod CodeLaws
pub mod Fronts
pub mod HeadLaws
pub mod PacketLaws
