pub mod Conf
